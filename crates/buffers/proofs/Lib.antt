pub mod Stores
pub mod Least
