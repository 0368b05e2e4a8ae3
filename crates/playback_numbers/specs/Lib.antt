-- The rules of playing a record for its numbers.
pub mod Numbers
pub mod Prints
