pub mod Guarded
pub mod Laws
pub mod Safety
pub mod Scopes
pub mod SameLines
pub mod LineSamples
pub mod SameTree
pub mod LeastLines
