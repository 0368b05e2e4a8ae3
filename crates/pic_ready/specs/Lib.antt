-- The rules of the ready sets of a controller.
pub mod Ready
