pub mod Colons
pub mod Priorities
pub mod Ordered
pub mod Ascending
pub mod Kept
pub mod Namespaced
