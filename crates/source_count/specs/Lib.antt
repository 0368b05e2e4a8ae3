-- The number of sources.
pub mod Count
