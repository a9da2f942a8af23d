pub mod Faults
pub mod LineParts
pub mod Lines
pub mod Memory
pub mod Pour
pub mod Unread
