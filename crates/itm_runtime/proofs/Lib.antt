pub mod Common
pub mod DueSteps
pub mod GoingOn
pub mod NumberAnswers
pub mod Examples
