mod OneRow
mod OneAnswer
mod ReadingBack
mod SayingYes
