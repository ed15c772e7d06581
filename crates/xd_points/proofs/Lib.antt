mod ArePointsLemmas
mod MeetLemmas
mod NarrowLemmas
mod HasMovesLemmas
mod GrowsLemmas
mod PlaceLemmas
pub mod MeaningLaw
pub mod StayLaws
mod StandForMovesLemmas
pub mod TableLemmas
mod PatternMoveLemmas
pub mod FirstRunLaw
pub mod FollowsLaw
pub mod OperationLemmas
