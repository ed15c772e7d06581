pub mod Walked
pub mod Ready
pub mod Outcome
