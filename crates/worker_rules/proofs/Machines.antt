-- The plain machine in the state that a worker's engine stands for, and what comes of a call.
pub mod PlainStates
pub mod PlainActions
pub mod ClockCalls
pub mod LastEvents
pub mod RestartingCalls
pub mod ActionRooms
