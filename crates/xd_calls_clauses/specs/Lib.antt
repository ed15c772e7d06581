pub mod Posed
pub mod Tracked
