mod StepLemmas
mod QuoteLemmas
mod AtomLemmas
mod CaseLemmas
mod KeywordLemmas
pub mod CourseLemmas
pub mod LineLemmas
pub mod NumberLemmas
pub mod BeginLemmas
pub mod Unique
pub mod OneText
pub mod SpellsTreesLemmas
pub mod TheLaws
pub mod GoalLemmas
