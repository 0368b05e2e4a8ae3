-- The proofs: laws of lists, the trace's scans are document 01's sentences, the nesting theorem, a stack held in an array, the example.
pub mod Lists
pub mod OwnReturns
pub mod Opens
pub mod Chainings
pub mod TraceLaws
pub mod Nesting
pub mod Held
pub mod Example
