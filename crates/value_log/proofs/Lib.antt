pub mod Common
pub mod FilledRows
pub mod IndexedRows
pub mod Examples
