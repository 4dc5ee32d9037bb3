pub mod Common
pub mod Steps
pub mod Fitted
pub mod KeptBoxes
pub mod Comings
pub mod Numbers
pub mod Rejoined
pub mod SameWords
