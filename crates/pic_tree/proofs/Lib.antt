-- Laws of the winner by a tree of comparators.
pub mod Rooted
mod Entered
