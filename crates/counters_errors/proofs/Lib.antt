-- Laws of the error counters.
pub mod Testing
pub mod Counts
pub mod Runs
pub mod Soundness
