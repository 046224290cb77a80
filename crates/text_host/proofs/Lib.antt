pub mod LineFacts
pub mod CutFacts
pub mod Windows
