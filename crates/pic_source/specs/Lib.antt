-- The rules of one source that more than one crate needs, and tests one after the other.
pub mod Ranks
pub mod ClosedForm
pub mod Sources
pub mod Tests
