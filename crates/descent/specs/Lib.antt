pub mod Answers
pub mod Expressions
pub mod Statements
pub mod Declarations
pub mod Calls
pub mod Theorems
