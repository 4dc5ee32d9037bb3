-- The attempts: their rows, the tries that they are, and when each began.
pub mod Stages
pub mod LaterTries
pub mod ToldTries
