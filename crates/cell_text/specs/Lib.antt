pub mod Fields
pub mod Values
pub mod Parts
pub mod Syntax
pub mod Storable
