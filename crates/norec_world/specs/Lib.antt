pub mod Views
pub mod Listed
pub mod WorldBegins
pub mod Calls
pub mod Taken
