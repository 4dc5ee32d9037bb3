-- Journals of what stood before writes, and bytes that are put back by them.
pub mod CoveredBytes
pub mod EntryChains
pub mod EntryBounds
pub mod Rollbacks
pub mod KeptLogs
pub mod LaidBytes
pub mod NewestEntries
pub mod Overwrites
