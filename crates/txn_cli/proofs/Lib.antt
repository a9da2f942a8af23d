pub mod Beginning
pub mod Coming
pub mod Caused
pub mod LineSteps
pub mod Scripts
pub mod Spending
pub mod Stopping
pub mod Telling
