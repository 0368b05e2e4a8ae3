-- Laws of the handler service.
pub mod Margins
pub mod NoKind
