pub mod Graph
pub mod TypeNames
pub mod Emptiness
pub mod Known
pub mod Adopt
