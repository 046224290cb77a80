pub mod Meaning
pub mod Calls
pub mod Sound
pub mod Checks
