pub mod Capped
pub mod Gaps
pub mod Left
pub mod Room
pub mod Standing
