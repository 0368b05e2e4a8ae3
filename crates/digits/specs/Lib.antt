-- Text and numbers as bytes.
pub mod Ascii
pub mod Digits
pub mod Pieces
pub mod Put
