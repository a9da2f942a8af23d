pub mod Fit
pub mod Puts
pub mod Groups
