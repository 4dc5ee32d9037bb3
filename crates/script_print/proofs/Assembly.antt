-- What a text says is a program that a text can say: what is kept of the lines so far.
pub mod Levels
pub mod Operands
pub mod Instructions
pub mod Lists
pub mod Sections
pub mod Items
pub mod States
pub mod Blocks
pub mod Lines
pub mod Programs
