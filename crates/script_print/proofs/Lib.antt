pub mod Common
pub mod Printable
pub mod Assembly
pub mod Texts
pub mod Examples
