pub mod Graphs
pub mod Search
pub mod Choice
pub mod ByIds
