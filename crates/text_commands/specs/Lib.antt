pub mod Input
pub mod Lines
pub mod Answers
pub mod Commands
