-- Laws of the internal timers.
pub mod Testing
pub mod Clocks
pub mod Soundness
