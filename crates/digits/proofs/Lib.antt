pub mod Stores
pub mod Digits
pub mod Meaning
pub mod Pieces
pub mod Signs
