pub mod Counts
pub mod Knows
pub mod Spots
