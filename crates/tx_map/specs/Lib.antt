pub mod Finds
pub mod Pairs
pub mod Plainly
pub mod Puts
pub mod Slots
pub mod Tables
pub mod Told
pub mod Written
