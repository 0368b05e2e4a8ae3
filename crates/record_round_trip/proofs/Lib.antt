-- Laws of the round trip: over the rules, and of the two calls.
pub mod RoundTrip
pub mod Calls
