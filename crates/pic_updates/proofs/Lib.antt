-- Laws of sets that follow a sample or a store.
pub mod Moving
pub mod Others
pub mod Follow
