pub mod NameOrder
pub mod SameCells
pub mod HitKinds
pub mod OneCalls
