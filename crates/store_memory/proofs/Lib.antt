pub mod Search
pub mod Trail
pub mod Keeping
pub mod CallLaws
