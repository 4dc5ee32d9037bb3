pub mod Common
mod Examples
pub mod Solos
pub mod Likeness
pub mod LegalHistories
