-- The rules of the interrupt controller, in the order of document 01.
pub mod Outcome
pub mod Fields
pub mod Sources
pub mod Sound
pub mod Calls
