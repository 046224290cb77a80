pub mod Endings
pub mod Copies
