pub mod Tellers
pub mod Transfers
