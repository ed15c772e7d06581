pub mod Clauses
pub mod Cases
pub mod Laws
pub mod Compiled
pub mod Begins
pub mod Behind
