-- What calls of an irrevocable transaction come to, by the plain machine.
pub mod KeptStates
pub mod HeldReplies
pub mod HeldBlocks
pub mod HeldAccesses
pub mod Completions
pub mod Refusals
pub mod PartsOfCalls
