-- Laws of texts that are made: the text, the round trip, the cut of a record that is too long; the listing as a point.
pub mod Writing
pub mod RoundTrip
pub mod Cut
pub mod Points
