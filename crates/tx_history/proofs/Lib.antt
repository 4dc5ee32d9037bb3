pub mod Common
pub mod SameDepths
pub mod TextPieces
pub mod PagedTexts
pub mod AppendedTexts
pub mod CallLines
pub mod Streams
pub mod RowTexts
pub mod WorkedLines
pub mod WorkedStreams
mod WorkedRestarts
pub mod SavedBlocks
pub mod PlainSizes
pub mod ToldRestarts
mod WorkedBounds
pub mod Runs
