-- Laws of texts: marks and lines, numbers, what a line says.
pub mod Marks
pub mod Digits
pub mod Rows
