pub mod Came
pub mod Said
pub mod Rows
pub mod Table
pub mod Shown
