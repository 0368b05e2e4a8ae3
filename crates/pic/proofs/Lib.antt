-- Laws of the controller's rules.
pub mod Latches
pub mod Soundness
pub mod Winning
pub mod Difference
pub mod Larger
pub mod Margins
pub mod Turns
pub mod Calling
