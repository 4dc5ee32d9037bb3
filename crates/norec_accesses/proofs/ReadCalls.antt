-- Reads, piece by piece: what is loaded, confirmed and answered.
pub mod Replies
pub mod JoinedRows
pub mod WholeWords
pub mod ReadyReads
pub mod WholeReads
pub mod ConfirmedWords
pub mod ReadsAtOnce
pub mod KnownReads
