-- An actor's engine over one step or one call: what it has of the cells, and what it gives.
pub mod Intakes
pub mod TiedEngines
pub mod ClockHolders
pub mod HeldMoves
pub mod PlayerLaws
pub mod SoundSteps
