pub mod ApartLemmas
pub mod OverApproximationLemmas
pub mod DivideLemmas
pub mod StepLemmas
pub mod SearchLemmas
