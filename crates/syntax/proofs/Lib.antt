pub mod CaseFacts
pub mod Places
pub mod Exactly
