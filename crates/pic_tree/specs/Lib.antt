-- The rules of the winner by a tree of comparators.
pub mod Tree
