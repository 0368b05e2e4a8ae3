-- The rules of the counters beside the controller: the internal timers and the error counters together, and their CSRs.
pub mod Outcome
pub mod Whole
pub mod Csrs
pub mod Each
