-- The attempts: their rows, the tries that they are, and when each began.
pub mod ReadPositions
pub mod TryEnds
pub mod ThreadAttempts
pub mod TryCalls
pub mod TryChains
pub mod Dates
