-- Two worlds that are the same still are over the same events.
pub mod Answers
pub mod Calls
pub mod Work
pub mod Worlds
pub mod Schedules
pub mod Starts
