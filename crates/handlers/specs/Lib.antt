-- The rules of the machine and the handler service, in the order of document 01.
pub mod Outcome
pub mod Fields
pub mod Machines
pub mod Service
pub mod Margins
pub mod Calls
pub mod Checked
