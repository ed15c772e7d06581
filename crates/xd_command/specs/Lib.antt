pub mod Command
pub mod CanRun
pub mod Answer
pub mod Outcome
