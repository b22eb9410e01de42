pub mod Counted
pub mod Each
pub mod Parsed
pub mod Scalars
pub mod Steps
pub mod Viewed
