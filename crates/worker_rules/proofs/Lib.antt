pub mod Common
pub mod Machines
pub mod Runs
pub mod Begins
pub mod Transactions
pub mod Shapes
pub mod Laws
