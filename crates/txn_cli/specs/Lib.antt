pub mod Call
pub mod Faults
pub mod Line
pub mod Outcomes
pub mod Output
pub mod Script
pub mod Causes
pub mod Words
