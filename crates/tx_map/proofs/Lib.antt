pub mod Common
mod Added
mod Bytes
mod Counts
mod Examples
mod Finds
mod Histories
mod Keys
mod Leads
mod Machines
mod Pairs
mod Parts
mod Searches
mod Threads
mod Written
