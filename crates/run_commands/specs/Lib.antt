pub mod Items
pub mod Plays
pub mod Scheduled
pub mod Pages
pub mod Endings
pub mod Running
pub mod Threading
