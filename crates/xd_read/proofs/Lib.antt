pub mod Machine
pub mod StoreItems
pub mod Steps
pub mod Runs
pub mod CanonicalLemmas
pub mod CanonicalSpells
pub mod OneFault
pub mod PartLemmas
