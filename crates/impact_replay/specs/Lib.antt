pub mod Comparison
pub mod Lines
pub mod LogReading
pub mod Replayed
