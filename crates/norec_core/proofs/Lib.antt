pub mod Common
pub mod Replies
pub mod Examples
pub mod Logs
pub mod Engines
