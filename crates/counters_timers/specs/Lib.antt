-- The rules of the internal timers.
pub mod Timers
pub mod Each
