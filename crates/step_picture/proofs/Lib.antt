pub mod Common
mod Backs
mod GatheredMarks
mod SameBars
mod Texts
