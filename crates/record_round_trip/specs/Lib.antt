-- What a record written and read, and one read and written, answer and leave.
pub mod RoundTrip
