pub mod Shown
pub mod FreeNames
pub mod Bodies
