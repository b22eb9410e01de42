pub mod Preparation
pub mod Trying
pub mod Walk
