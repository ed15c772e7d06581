pub mod Components
pub mod Names
pub mod Uses
pub mod Faults
pub mod Soundness
