-- The rules of the memory-mapped registers and of the samples.
pub mod Words
pub mod Offsets
pub mod Registers
pub mod Calls
