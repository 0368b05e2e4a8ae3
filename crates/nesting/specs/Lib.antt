-- Nested handlers, over any machine: the words of a trace, the claim about a whole list of events, the laws asked of a machine.
pub mod Lists
pub mod Trace
pub mod Claim
pub mod Held
pub mod Example
