pub mod Operators
pub mod Syntax
pub mod Conditions
pub mod Meaning
