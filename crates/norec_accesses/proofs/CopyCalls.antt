-- Copies and fills: what is refused, what is read of the source, and what the plain machine does with them.
pub mod Effects
pub mod Sources
pub mod ReadyCopies
pub mod Fills
