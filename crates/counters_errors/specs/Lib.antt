-- The rules of the error counters.
pub mod Outcome
pub mod Errors
pub mod Each
