pub mod Listing
pub mod Orders
pub mod Queues
pub mod Standing
pub mod Tokens
