pub mod Lists
pub mod Codes
pub mod Pieces
pub mod Numbered
pub mod Cells
pub mod Found
