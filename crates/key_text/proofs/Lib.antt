pub mod Floats
pub mod Texts
pub mod Bytes
