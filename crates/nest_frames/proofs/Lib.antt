pub mod Common
pub mod OpenBlocks
pub mod NewRows
pub mod Examples
pub mod ForgottenMoments
