-- The lines of a text, what a line says, and the numbers in it.
pub mod Lines
pub mod Rows
pub mod Numbers
