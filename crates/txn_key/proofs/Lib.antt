pub mod TokenTexts
pub mod KeyOrder
pub mod KeyPlaces
pub mod SortedEntries
pub mod KeySets
pub mod DocLists
pub mod RisingKeys
pub mod DocumentLaws
