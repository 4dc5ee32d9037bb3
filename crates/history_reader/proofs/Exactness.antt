-- What is read is so spelled: a text that is read is the one spelling of its history.
pub mod Fields
pub mod Bytes
pub mod Calls
pub mod Entries
pub mod Heads
pub mod Lines
pub mod States
pub mod BodySteps
pub mod Steps
pub mod Texts
