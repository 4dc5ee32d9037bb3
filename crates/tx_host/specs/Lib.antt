pub mod Starts
pub mod Joined
