pub mod Differences
pub mod Separations
pub mod VerifyLemmas
