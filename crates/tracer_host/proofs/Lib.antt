pub mod FrameFacts
pub mod RadiusFacts
pub mod FileFacts
