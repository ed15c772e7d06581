pub mod Fits
pub mod FitsByState
pub mod Stream
pub mod StreamByState
pub mod Least
pub mod LeastByState
