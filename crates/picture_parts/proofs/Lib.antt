mod Backs
pub mod Texts
