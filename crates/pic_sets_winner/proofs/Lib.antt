-- Laws of the winner from the ready sets.
pub mod Firsts
pub mod Winners
