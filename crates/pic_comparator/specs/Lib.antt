-- The rules of the comparison, and of trees of comparators.
pub mod Comparator
pub mod Trees
