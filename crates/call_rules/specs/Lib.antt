pub mod Ties
pub mod Served
pub mod InCall
pub mod Drives
pub mod Underway
pub mod Standing
pub mod CallResults
