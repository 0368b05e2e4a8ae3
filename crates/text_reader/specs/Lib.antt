-- The text of a record, read.
pub mod Reading
pub mod Answers
