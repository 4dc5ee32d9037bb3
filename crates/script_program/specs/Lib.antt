pub mod Sizes
pub mod Instructions
pub mod Listing
pub mod Sections
pub mod Schedules
pub mod SameInstructions
