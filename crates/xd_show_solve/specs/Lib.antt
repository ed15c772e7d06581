pub mod Equations
pub mod Bundles
pub mod Systems
pub mod Levels
pub mod Summands
pub mod Rounds
