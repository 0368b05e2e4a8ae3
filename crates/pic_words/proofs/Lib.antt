-- Laws of words of sources.
pub mod Put
pub mod Laws
pub mod Changes
pub mod SourceBits
