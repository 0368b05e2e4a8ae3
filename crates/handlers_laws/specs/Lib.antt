-- What is proved of the whole machine, in the order of the documents.
pub mod Latches
pub mod Csrs
pub mod Timers
pub mod Switches
pub mod Errors
pub mod Commits
