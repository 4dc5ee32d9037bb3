pub mod Printing
pub mod Fields
