mod RowsReadLemmas
mod Levels
mod Classes
mod Utf8
pub mod TheLaw
pub mod Defined
pub mod Tables
