pub mod Apart
pub mod OverApproximation
pub mod Search
