pub mod ComparisonLemmas
pub mod Parameters
