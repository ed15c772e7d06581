pub mod Seen
pub mod Bound
pub mod Binders
pub mod Read
pub mod Laws
