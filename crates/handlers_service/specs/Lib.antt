-- The rules of the handler service, in the order of document 01.
pub mod Outcome
pub mod Fields
pub mod Sound
pub mod Events
