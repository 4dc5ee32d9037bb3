-- The histories of worlds: each of them is legal, within the limits of a run, and tells truly of actors that found no memory.
pub mod Examples
pub mod EachThread
pub mod DisturbedWorlds
pub mod Holders
pub mod LegalWorlds
pub mod LimitedWorlds
pub mod StarvedActors
