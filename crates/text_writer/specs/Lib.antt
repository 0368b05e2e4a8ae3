-- The text that is made of a record, and that it is read back.
pub mod Writing
pub mod Answers
pub mod RoundTrip
