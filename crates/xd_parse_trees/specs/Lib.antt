pub mod Merged
pub mod Values
pub mod Means
pub mod Reading
pub mod Lookahead
pub mod Shallow
pub mod Pieces
pub mod Nodes
