pub mod States
pub mod Sorts
pub mod Compiled
pub mod CellsView
pub mod Mirrors
pub mod Growing
pub mod HeadList
pub mod Numbered
