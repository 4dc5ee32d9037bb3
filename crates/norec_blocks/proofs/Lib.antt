pub mod Common
pub mod Blocks
pub mod Counts
pub mod ClockHolding
pub mod StoredRows
pub mod CommitCalls
