pub mod FirstRuns
pub mod Following
pub mod Laws
pub mod Meaning
pub mod Narrowing
pub mod Placing
pub mod Points
pub mod Tables
