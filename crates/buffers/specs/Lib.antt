pub mod Filled
pub mod Least
