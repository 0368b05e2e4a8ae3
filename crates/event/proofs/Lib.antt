-- Laws of events.
pub mod Laws
