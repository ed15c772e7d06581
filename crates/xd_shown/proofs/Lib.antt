pub mod NameLaws
pub mod NamingSteps
pub mod DefiningLemmas
pub mod Soundness
pub mod Meanings
pub mod AreMeantLemmas
pub mod IsTableLemmas
mod Samples
