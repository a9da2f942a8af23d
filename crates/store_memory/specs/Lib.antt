pub mod Positions
pub mod Told
pub mod CallsMade
