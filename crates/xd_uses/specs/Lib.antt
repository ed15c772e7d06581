pub mod Claims
pub mod Comparison
pub mod Membership
pub mod Values
