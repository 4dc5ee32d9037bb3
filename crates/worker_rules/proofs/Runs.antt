-- A worker's run, as its open attempt goes on and ends.
pub mod LaterCommits
pub mod LaterRuns
pub mod EarlierReads
pub mod OpenRuns
pub mod OpenCloses
