-- Laws of the ready sets of a controller.
pub mod Members
pub mod Winners
pub mod Moves
pub mod Entering
