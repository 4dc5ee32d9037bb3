pub mod ComesBack
pub mod Reads
pub mod Words
