pub mod Sets
pub mod Rounds
pub mod Unrolling
pub mod Tracking
pub mod Marking
pub mod Idling
pub mod Stepping
pub mod Searching
