pub mod Common
pub mod Pieces
pub mod Replies
