pub mod Codes
pub mod Cells
pub mod Data
pub mod HandleOwns
pub mod HandleLends
pub mod Kept
pub mod Told
pub mod Seats
