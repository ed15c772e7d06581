pub mod FoundLines
pub mod InScope
pub mod States
pub mod Signed
pub mod Clauses
pub mod Walkable
pub mod Known
pub mod Found
