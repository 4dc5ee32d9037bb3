-- A call of a thread, from its engine's answer on.
pub mod Closes
pub mod BlocksBack
pub mod ActionRoom
pub mod Answers
pub mod Results
pub mod Rollbacks
pub mod Restarts
pub mod Underway
