pub mod Common
pub mod RunLists
pub mod Begins
pub mod OpenRooms
pub mod TookIn
