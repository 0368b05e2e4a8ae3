-- The rules of the ready sets as rows, and what is proved of them.
pub mod Sets
pub mod Laws
