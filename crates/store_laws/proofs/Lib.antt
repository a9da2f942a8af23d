pub mod views
pub mod cells
pub mod chains
pub mod meanings
pub mod steps
pub mod trails
