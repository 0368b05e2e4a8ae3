-- The rules of the calls for C and Rust.
pub mod End
