-- The questions that are asked of numbers.
pub mod Questions
