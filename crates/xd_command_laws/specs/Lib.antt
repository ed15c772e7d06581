pub mod OneAnswer
pub mod ReadBack
pub mod SayingYes
