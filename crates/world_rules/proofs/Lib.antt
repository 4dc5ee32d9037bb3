pub mod Common
pub mod Plan
pub mod Examples
pub mod Tries
pub mod Events
pub mod Commits
