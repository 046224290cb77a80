pub mod Errors
pub mod Numbers
