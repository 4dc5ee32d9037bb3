pub mod InPhases
pub mod OpenBegins
pub mod Between
pub mod Moves
