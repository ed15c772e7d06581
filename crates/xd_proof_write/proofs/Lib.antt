pub mod OnceLemmas
pub mod LineLemmas
pub mod NumberLemmas
pub mod GoalLemmas
pub mod TextLemmas
pub mod FreeLemmas
pub mod ClaimLemmas
pub mod TheLaw
