-- Laws of records: words and bytes, the walk, the questions, the places of the arrays, the answers, what was read, input that is too long, two readers beside one another, the writer beside the reader; the listing as a point.
pub mod Words
pub mod Walk
pub mod Questions
pub mod Places
pub mod Answers
pub mod Parts
pub mod TooLong
pub mod Readers
pub mod Retired
pub mod Points
