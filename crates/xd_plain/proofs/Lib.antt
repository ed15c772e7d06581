mod PlainCost
pub mod SplitsLemmas
mod PlainMeaningLemmas
mod MeaningSamples
mod PlainLoops
