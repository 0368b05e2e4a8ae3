-- The rules of playing a record.
pub mod Text
pub mod Size
pub mod Print
pub mod Players
