-- The text of a history that a text can tell is read as that history.
pub mod ReadLines
pub mod Fields
pub mod Calls
pub mod Spellings
pub mod Lines
pub mod LeadingLines
pub mod AttemptTexts
pub mod Texts
