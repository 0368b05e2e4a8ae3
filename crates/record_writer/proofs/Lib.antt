-- Laws of the writer: words stored as bytes, the verdict and what is left.
mod Stores
mod Answers
