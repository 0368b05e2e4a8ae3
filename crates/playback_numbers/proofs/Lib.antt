-- What is proved of the numbers of a record.
pub mod Reading
pub mod Playing
pub mod Prints
