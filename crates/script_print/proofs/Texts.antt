-- What is printed of a program says the program.
pub mod LineTexts
pub mod Words
pub mod Instructions
pub mod Fields
pub mod Lines
pub mod Code
pub mod Directives
pub mod ItemTexts
pub mod Items
pub mod Sections
pub mod Programs
