pub mod Lists
pub mod Levels
pub mod OperatorFields
pub mod Cases
