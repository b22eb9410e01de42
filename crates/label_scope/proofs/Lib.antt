pub mod Elements
pub mod Fronts
pub mod Inserts
pub mod Joins
pub mod KeyLists
pub mod VocabularyLaws
