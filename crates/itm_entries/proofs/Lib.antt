pub mod Members
pub mod AllEntries
pub mod UniqueNames
pub mod Lookup
pub mod Examples
