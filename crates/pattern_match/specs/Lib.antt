pub mod Places
pub mod Openings
pub mod Traces
pub mod Shapes
pub mod Marks
pub mod Steps
pub mod Moves
pub mod Searches
