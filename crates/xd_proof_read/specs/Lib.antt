pub mod Naming
pub mod Said
pub mod Stages
pub mod BadLines
pub mod Depths
