pub mod NamedLaws
pub mod Reached
pub mod AdoptLaws
pub mod Graphs
pub mod Lists
pub mod NameLemmas
pub mod EmptyLemmas
pub mod KnownLaws
mod WaitingLaws
