-- Worked verdicts, computed.
pub mod Answers
pub mod Histories
pub mod Restarts
pub mod Verdicts
