pub mod Waiting
pub mod Values
pub mod Functions
pub mod Matches
pub mod Machine
pub mod Evaluation
