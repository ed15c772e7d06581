pub mod Blocks
pub mod AtStates
