-- The rule of an event on a lent machine.
pub mod Lend
