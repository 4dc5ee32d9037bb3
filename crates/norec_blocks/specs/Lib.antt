pub mod Restarts
pub mod OuterBegins
pub mod CommitCalls
