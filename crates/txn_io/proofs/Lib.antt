pub mod Gathering
pub mod Invariants
pub mod Limits
pub mod Newlines
pub mod Pieces
