pub mod BinderLemmas
pub mod ReadingLemmas
pub mod ClauseLoop
pub mod MatchLoop
pub mod InOrder
pub mod SeenOnce
