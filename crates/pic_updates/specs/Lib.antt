-- The rules of sets that follow a sample or a store.
pub mod Updates
