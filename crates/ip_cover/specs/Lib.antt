pub mod Cover
pub mod Merged
pub mod Spans
