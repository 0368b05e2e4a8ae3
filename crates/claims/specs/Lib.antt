-- Lists of events played from power-on, and the claims about them.
pub mod Play
pub mod Nested
