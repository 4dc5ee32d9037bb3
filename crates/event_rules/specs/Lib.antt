pub mod Moments
pub mod Invariant
