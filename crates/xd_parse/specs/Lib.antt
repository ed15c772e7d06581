pub mod Faults
pub mod ParseErrors
pub mod Laws
pub mod Items
pub mod Grows
pub mod Definitions
