pub mod ReadLists
pub mod PartsAgain
pub mod FieldsAgain
pub mod BodiesAgain
pub mod CellsAgain
pub mod RecordsRead
pub mod PartsStorable
pub mod CellsStorable
