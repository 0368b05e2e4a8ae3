-- Laws of the ready sets as rows.
pub mod Members
pub mod Steps
pub mod Reversal
pub mod Same
