pub mod Grammar
pub mod Reading
pub mod Malformed
pub mod Laws
pub mod Completes
pub mod Moves
pub mod Pending
