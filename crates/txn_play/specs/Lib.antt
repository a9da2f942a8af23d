pub mod Batches
pub mod Index
pub mod Remains
pub mod Progress
pub mod Readings
pub mod Refusals
pub mod Runs
pub mod Sessions
