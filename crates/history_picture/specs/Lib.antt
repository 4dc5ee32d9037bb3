pub mod Seats
pub mod Columns
pub mod Picture
