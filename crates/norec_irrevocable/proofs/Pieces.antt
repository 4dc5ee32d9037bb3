-- Reads, writes and copies, piece by piece and chunk by chunk.
pub mod PartCopies
pub mod PlacedPieces
pub mod NextPlaces
pub mod HeldCopies
pub mod ChunkPhases
pub mod LoadedPieces
