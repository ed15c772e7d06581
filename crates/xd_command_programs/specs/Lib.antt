pub mod Report
pub mod Check
pub mod CheckRefused
pub mod Types
pub mod Run
pub mod Running
pub mod Sample
