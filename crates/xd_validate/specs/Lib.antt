pub mod Reading
pub mod Ended
pub mod Answers
pub mod Outcome
