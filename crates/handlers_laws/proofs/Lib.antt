-- Laws of the machine for the layers above.
pub mod Service
pub mod Facts
pub mod Cases
pub mod Kept
pub mod Refused
pub mod Checks
pub mod Latches
pub mod Ranks
pub mod Values
pub mod Csrs
pub mod Timers
pub mod Errors
pub mod Commits
pub mod Switches
