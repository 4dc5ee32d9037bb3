pub mod Common
pub mod Examples
pub mod Tries
pub mod Rooms
pub mod Engines
pub mod Events
pub mod Commits
pub mod Runs
