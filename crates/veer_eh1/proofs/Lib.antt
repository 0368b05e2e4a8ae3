-- What is proved of the calls for C and Rust.
pub mod Seven
