-- An actor's run: what its player does alone on the memories that the commits left.
pub mod Answers
pub mod Endings
pub mod Begins
pub mod Intakes
pub mod Calls
pub mod Others
