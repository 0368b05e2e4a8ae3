-- The kinds, what an event is, and the events of 01's listing.
pub mod Kinds
pub mod Event
pub mod Listing
