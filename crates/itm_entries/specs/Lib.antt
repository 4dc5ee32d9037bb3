pub mod Names
pub mod Entries
pub mod SameEntries
