pub mod DoubleColon
pub mod EightGroups
pub mod Groups
pub mod Pushed
pub mod Ranges
