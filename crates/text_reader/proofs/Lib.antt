-- Laws of the text of a record: the rules in plain sentences, the loops over the lines, the record made, a text that is too long; the listing as a point.
pub mod Sentences
pub mod Turns
pub mod Made
pub mod Plain
pub mod Cut
pub mod Points
