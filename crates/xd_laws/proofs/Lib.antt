pub mod FitsLaws
pub mod Documents
pub mod Pigeon
pub mod Bare
pub mod Within
pub mod WaysFit
pub mod FitsWays
pub mod Unfoldings
pub mod HeadsLaw
pub mod SoundGuarded
pub mod FitsBound
pub mod HeadsMore
pub mod Fuel
pub mod TheLaws
pub mod Samples
mod CheckSamples
mod TelephoneSamples
mod ConsistentSamples
pub mod FirstWrong
pub mod SameTrees
pub mod ViolationLaw
pub mod Claims
pub mod ConsistentLaw
pub mod WordLists
pub mod WayShapes
pub mod BoundVariables
pub mod LinearPatterns
pub mod DecisionLemmas
pub mod NoFaults
pub mod SuitsLemmas
pub mod OrderedBindings
pub mod SafeValues
pub mod SafePrograms
pub mod SameScopes
pub mod OneLines
pub mod LeastLines
