pub mod Texts
pub mod Matches
pub mod Replays
pub mod Verdicts
pub mod EarlyVerdicts
pub mod Tables
pub mod Answers
