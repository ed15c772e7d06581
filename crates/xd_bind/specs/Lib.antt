pub mod Owning
pub mod Marks
pub mod Projection
pub mod Changes
pub mod Ahead
pub mod Search
