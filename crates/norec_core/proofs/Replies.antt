-- What an engine answers, and what holds of it then.
pub mod ReplyCases
pub mod ActionCounts
pub mod AnsweredEngines
pub mod Outcomes
pub mod RefusedCalls
pub mod CopyRefusals
