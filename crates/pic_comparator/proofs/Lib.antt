-- Laws of the comparison, and of trees of comparators.
pub mod Comparing
pub mod Counting
pub mod Shapes
pub mod Halves
