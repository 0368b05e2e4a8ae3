-- What an event hands back.
pub mod Outcomes
