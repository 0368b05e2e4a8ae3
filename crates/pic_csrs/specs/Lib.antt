-- The rules of the control and status registers.
pub mod Addresses
pub mod Values
pub mod Calls
