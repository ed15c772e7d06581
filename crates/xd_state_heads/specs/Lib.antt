pub mod Moves
pub mod Wants
