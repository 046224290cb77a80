pub mod Answers
pub mod Expressions
pub mod Statements
pub mod Declarations
pub mod Fuel
pub mod Enough
pub mod Examples
