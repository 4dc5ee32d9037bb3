-- The events of a world: a step, the local work behind it, and what both leave of the others.
pub mod Measures
pub mod Worlds
pub mod WorldEvents
pub mod EndedAttempts
