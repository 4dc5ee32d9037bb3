-- The commits, in their order, and the memories that they left.
pub mod ActorLimits
pub mod CommitCounts
pub mod SeenMemories
pub mod LaidWords
