pub mod View
pub mod Bounds
pub mod Ends
pub mod Turns
