pub mod Report
pub mod WarningText
pub mod Carries
pub mod Kept
