pub mod Subtype
pub mod Named
pub mod Minus
pub mod MinusAlone
pub mod Verify
