-- Bench points, as one table about the rules.
pub mod Points
