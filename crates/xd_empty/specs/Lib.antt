pub mod Uses
pub mod Inhabited
pub mod Parts
pub mod Known
