pub mod Choices
pub mod Doing
pub mod Faults
pub mod Histories
pub mod Told
