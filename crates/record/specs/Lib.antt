-- What a record is, and what reading and writing one answer.
pub mod Words
pub mod Record
pub mod Verdict
pub mod Questions
pub mod Answers
pub mod Readers
pub mod Retired
