pub mod EndedTransactions
pub mod CallsInProgress
pub mod KeptBounds
mod OptionalRefusals
pub mod RefusedAccesses
