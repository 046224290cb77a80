pub mod CopiedFacts
pub mod FitFacts
