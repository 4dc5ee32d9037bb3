pub mod Common
pub mod RowLists
pub mod ShownRows
pub mod ShownItems
pub mod EventRows
pub mod Texts
mod Examples
