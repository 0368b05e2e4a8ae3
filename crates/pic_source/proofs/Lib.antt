-- Laws of the rules of one source.
pub mod Bools
pub mod ClosedForm
pub mod Mirror
pub mod Ranges
pub mod Signed
