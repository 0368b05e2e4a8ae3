-- The rules of 32 sources at a time, and what is proved of them.
pub mod Words
pub mod Laws
