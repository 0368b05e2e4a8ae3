-- Laws of the registers and of the samples.
pub mod Follow
pub mod Offsets
pub mod Sounds
pub mod Turns
pub mod Words
