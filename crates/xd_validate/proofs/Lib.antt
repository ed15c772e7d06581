pub mod Readings
pub mod Tellings
pub mod Runs
pub mod Words
