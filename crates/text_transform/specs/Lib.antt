pub mod CommandLine
pub mod Fronts
pub mod Pairs
pub mod Segments
