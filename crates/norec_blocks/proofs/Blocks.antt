-- Blocks that begin, are cancelled, or make their transaction irrevocable.
pub mod Restarts
pub mod DifferentRows
pub mod MayRestarts
pub mod NestedCommits
pub mod IrrevocableEntries
pub mod Begins
pub mod OuterBegins
