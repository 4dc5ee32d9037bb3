pub mod Common
pub mod Values
pub mod Faults
pub mod BlocksAgain
pub mod RoundTrips
pub mod Exactness
pub mod Canon
pub mod EarlyLines
pub mod EarlyVersions
mod WorkedRestarts
