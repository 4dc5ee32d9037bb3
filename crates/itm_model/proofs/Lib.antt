pub mod Common
pub mod ArenaSizes
pub mod KeptEffects
pub mod Examples
pub mod Journals
mod OpenBlocks
