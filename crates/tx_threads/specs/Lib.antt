pub mod Seats
pub mod Threads
