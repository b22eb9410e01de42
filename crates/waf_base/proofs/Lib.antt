pub mod Below
pub mod Counting
pub mod Made
pub mod Told
