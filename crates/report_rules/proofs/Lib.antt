pub mod Common
pub mod Numbers
pub mod Rows
pub mod Passes
pub mod Histories
pub mod Examples
