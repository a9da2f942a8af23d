pub mod Operators
pub mod Effects
pub mod Places
pub mod Changes
pub mod Conflicts
pub mod Syntax
pub mod Updates
pub mod Listed
