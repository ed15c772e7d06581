pub mod Grown
pub mod Same
pub mod Names
pub mod Joints
