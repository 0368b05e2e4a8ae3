-- The rules of words of bits, and of tables.
pub mod Bits
pub mod Tables
