-- A world that one player has to itself shows what that player does alone.
pub mod TakingCalls
pub mod Players
pub mod Runs
pub mod Events
pub mod IdleEngines
pub mod Worlds
pub mod Results
pub mod Schedules
