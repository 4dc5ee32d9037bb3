pub mod Repeats
pub mod AddedSections
pub mod StrayItems
