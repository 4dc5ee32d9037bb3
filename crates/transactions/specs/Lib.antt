pub mod Lent
pub mod Runs
pub mod Tries
pub mod Blocks
pub mod Plain
pub mod Widths
pub mod Folds
