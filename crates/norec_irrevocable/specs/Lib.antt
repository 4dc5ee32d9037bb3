pub mod Phases
pub mod Outcomes
pub mod Moves
