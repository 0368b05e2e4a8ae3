-- The rules of the winner from the ready sets.
pub mod Highest
