-- A history has the verdict that it is legal exactly where it is.
pub mod Replies
pub mod Attempts
pub mod Positions
pub mod Replays
pub mod Ends
pub mod Verdicts
pub mod Restarts
pub mod Reasons
