pub mod CompiledTellLaw
pub mod ListedLemmas
pub mod NoneTakesLemmas
pub mod Givens
pub mod BeginsLemmas
pub mod Leaving
pub mod NumberedLemmas
