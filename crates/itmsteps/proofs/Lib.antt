pub mod Common
mod Drawings
mod DrawnHistories
mod Refused
pub mod Tables
mod Texts
mod Threads
mod Written
