pub mod Ids
pub mod Keys
pub mod Syntax
pub mod Places
pub mod KeySets
pub mod Documents
