mod Examples
pub mod Going
pub mod Leveling
pub mod Longest
pub mod Only
pub mod Rules
pub mod Sizes
pub mod Spelling
pub mod Stands
pub mod Values
pub mod Whole
pub mod Counting
