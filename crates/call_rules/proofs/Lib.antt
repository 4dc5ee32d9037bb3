pub mod Common
pub mod LaterViews
pub mod Steps
pub mod Calls
