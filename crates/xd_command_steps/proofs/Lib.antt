pub mod Growth
pub mod CarryNothing
pub mod IsHeldLemmas
pub mod NextLineLemmas
pub mod OneStep
