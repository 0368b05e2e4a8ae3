-- Laws of words of bits and of tables.
pub mod Bits
pub mod Words
pub mod Zeros
pub mod Tables
pub mod Shapes
