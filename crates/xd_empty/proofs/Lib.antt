pub mod NameLemmas
pub mod UsesLemmas
pub mod SearchLemmas
pub mod PartLemmas
pub mod KnownLemmas
