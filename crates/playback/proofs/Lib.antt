-- What is proved of the print.
pub mod Rows
pub mod Room
pub mod Printing
pub mod Whole
pub mod Reading
pub mod Players
