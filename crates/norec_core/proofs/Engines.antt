-- What holds of an engine at any time, and the plain state that it stands for.
pub mod Blocks
pub mod Machines
pub mod KeptFields
pub mod BlocksAgain
pub mod HeldStores
pub mod IrrevocableCalls
pub mod RestartingCalls
