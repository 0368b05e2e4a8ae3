-- Demand 3, proved; and the laws of lists played.
pub mod Laws
pub mod Playing
