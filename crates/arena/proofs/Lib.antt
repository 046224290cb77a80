pub mod Growth
pub mod Stored
