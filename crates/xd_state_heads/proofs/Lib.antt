pub mod IsHeadNamedLemmas
pub mod Sides
