pub mod Common
mod Modes
mod Kept
mod Looks
mod Tries
mod WidthReads
pub mod LastEngines
pub mod Within
mod InnerBlocks
pub mod BlockOutcomes
mod BlockRuns
mod RanActions
pub mod Deeds
pub mod FirstReplies
mod Examples
mod PlainBlocks
pub mod Plain
mod Chains
mod Came
mod PlainRuns
