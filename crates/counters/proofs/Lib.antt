-- Laws of the counters.
pub mod Testing
pub mod Soundness
pub mod Addresses
pub mod Writes
