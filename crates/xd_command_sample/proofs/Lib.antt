pub mod ReadRows
pub mod Faultless
pub mod TheText
pub mod Matches
pub mod Inputs
pub mod Runs
