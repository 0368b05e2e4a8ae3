-- Laws of the controller's calls, for the layers above.
pub mod Kept
pub mod Captures
pub mod Sources
pub mod Values
pub mod Csrs
pub mod Orders
