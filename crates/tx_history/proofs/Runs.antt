-- A player's run as a history tells it: each attempt of it is one alone on the memory of its position.
pub mod UnwrittenTransactions
pub mod AloneCalls
pub mod AloneRuns
pub mod LimitedRuns
