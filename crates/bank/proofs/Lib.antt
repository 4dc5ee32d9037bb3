pub mod Common
mod Calls
mod Moves
mod Payments
