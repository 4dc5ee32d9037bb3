pub mod Common
pub mod Steps
pub mod Legality
pub mod Examples
pub mod EarlyVerdicts
