pub mod Commas
pub mod Pushed
