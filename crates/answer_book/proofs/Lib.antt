pub mod Inserted
pub mod Lawful
pub mod Members
pub mod Tokens
