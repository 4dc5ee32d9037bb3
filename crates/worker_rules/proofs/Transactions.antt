pub mod OpenTries
pub mod Replies
pub mod Stops
