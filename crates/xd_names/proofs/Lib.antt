pub mod WordLemmas
pub mod TreeLemmas
pub mod LinearLemmas
pub mod NameLemmas
pub mod ExprLemmas
pub mod ProgramLemmas
