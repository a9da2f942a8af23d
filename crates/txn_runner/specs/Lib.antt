pub mod Stages
pub mod Running
pub mod Settling
pub mod Store
pub mod Causes
pub mod Calm
pub mod Built
pub mod Numbers
