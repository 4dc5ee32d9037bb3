-- What a call makes of a run that goes on, and where it ends.
pub mod Places
pub mod Rooms
pub mod CallsWithin
pub mod CallsOutside
pub mod Outcomes
pub mod Answers
pub mod Rows
pub mod Starves
pub mod Asks
pub mod Stopped
pub mod Shortages
pub mod Ends
pub mod Begins
pub mod BegunAttempts
