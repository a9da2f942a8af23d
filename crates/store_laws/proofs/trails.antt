pub mod TrailGrows
pub mod TrailFaithful
pub mod TrailLegal
pub mod TrailTells
pub mod TrailSplits
pub mod Exchanges
pub mod CallsMade
pub mod OnlyReading
