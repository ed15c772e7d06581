pub mod ByPlace
pub mod MetOrder
