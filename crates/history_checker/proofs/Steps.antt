-- How far the checker has come: one call, one attempt, one fault after the other.
pub mod Answers
pub mod Calls
pub mod Firsts
pub mod Ends
pub mod Faults
pub mod Tables
pub mod Verdicts
pub mod Walks
pub mod Restarts
