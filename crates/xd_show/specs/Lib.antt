pub mod Plans
pub mod Contents
pub mod Settled
