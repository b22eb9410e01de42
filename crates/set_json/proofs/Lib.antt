pub mod Behind
pub mod Listed
pub mod Misses
pub mod Ordered
pub mod Wholes
