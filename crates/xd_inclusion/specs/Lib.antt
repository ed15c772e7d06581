pub mod Inclusion
pub mod Compared
pub mod States
