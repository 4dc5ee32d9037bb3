-- The canonical history of one: it is as legal, and has the same text.
pub mod Texts
pub mod Runs
pub mod Attempts
pub mod Histories
pub mod FittingReplies
pub mod LegalTexts
pub mod Examples
