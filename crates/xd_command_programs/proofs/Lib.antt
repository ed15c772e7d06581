pub mod LineOrder
pub mod Merged
pub mod SameFaults
pub mod SmallFaults
pub mod Verdicts
pub mod Inputs
pub mod RunLemmas
pub mod Telephones
