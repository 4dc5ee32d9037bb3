-- The room for what a call to an engine leaves.
pub mod EngineCalls
pub mod AskingActors
