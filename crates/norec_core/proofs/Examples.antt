-- Worked cases, computed.
pub mod Actions
pub mod StepOrder
pub mod Blocks
pub mod Copies
pub mod IrrevocableTransactions
pub mod Restarts
