pub mod Common
pub mod Orders
pub mod Seated
mod Worked
