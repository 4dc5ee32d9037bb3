-- The history of a run on threads.
pub mod CommitPositions
pub mod ThreadAttempts
pub mod LegalRuns
pub mod WholeRuns
pub mod ScriptWidths
pub mod LimitedReports
pub mod ToldLimits
