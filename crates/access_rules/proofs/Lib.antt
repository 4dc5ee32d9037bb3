pub mod Common
pub mod Examples
pub mod Overlays
pub mod Readings
pub mod Writings
pub mod Ranges
pub mod CopyChunks
pub mod ServedCalls
