pub mod DefinitionsText
pub mod ReadsBack
pub mod ReadBackLaws
