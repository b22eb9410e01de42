pub mod Grows
pub mod Joined
pub mod Nodes
pub mod Reduced
pub mod Signs
pub mod Split
pub mod Stored
pub mod Viewed
