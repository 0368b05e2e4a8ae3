-- The numbers of the questions.
pub mod Numbers
