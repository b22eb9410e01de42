pub mod Edited
pub mod Keys
