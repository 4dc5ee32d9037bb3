pub mod Modes
pub mod NextSteps
pub mod FastCalls
pub mod WholeReads
pub mod WholeWrites
pub mod BlockSteps
pub mod Rounds
