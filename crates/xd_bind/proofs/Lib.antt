pub mod MarkLemmas
pub mod Automata
pub mod ChangeLemmas
pub mod IsSearchLemmas
pub mod CopiedLemmas
