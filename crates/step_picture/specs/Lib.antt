pub mod Walks
pub mod Shapes
pub mod Styles
pub mod Picture
pub mod Marks
pub mod Gathered
