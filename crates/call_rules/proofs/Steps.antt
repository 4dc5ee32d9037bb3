-- The steps of a call: what is asked for, and the value that is handed in.
pub mod CallsInHand
pub mod NewCalls
pub mod ClockLooks
pub mod NextViews
pub mod HandedValues
pub mod HeldSteps
pub mod Tries
pub mod LastLoads
pub mod StepChains
pub mod WordReads
pub mod DrivenCalls
pub mod KnownSteps
pub mod FurtherSteps
