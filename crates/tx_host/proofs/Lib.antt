pub mod Common
pub mod Parts
