-- Laws of the control and status registers.
pub mod Addresses
