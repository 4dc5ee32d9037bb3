pub mod Numbers
pub mod Versions
pub mod Courses
pub mod Fresh
pub mod Rows
pub mod Joins
pub mod Reports
pub mod Limits
