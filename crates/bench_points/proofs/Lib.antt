-- The table, proved.
pub mod Points
