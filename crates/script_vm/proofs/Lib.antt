pub mod Common
pub mod Examples
pub mod CancelExamples
pub mod Padding
pub mod LowBytes
pub mod KeptBlocks
pub mod NestedCode
pub mod NestedThreads
pub mod NestingExamples
pub mod InnerRestarts
mod InnerRestartExamples
