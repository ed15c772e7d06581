pub mod PlainDocuments
pub mod PlainTrees
pub mod PlainWays
pub mod PlainFits
pub mod PlainPrograms
pub mod PlainMeaning
