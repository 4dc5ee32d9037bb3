-- The room of an irrevocable transaction: for its calls, and for the actions that come to run.
pub mod LaterActions
pub mod ActionRoom
pub mod RecordedRoom
pub mod FedPlayers
pub mod RestartRoom
