-- The events of a world: a step, the local work behind it, and what both leave of the others.
pub mod SoundOthers
pub mod FurtherSteps
pub mod WorkChains
pub mod EventWorlds
