pub mod Faults
pub mod Texts
pub mod Plans
pub mod Statements
