pub mod Alike
pub mod Equations
pub mod Means
pub mod Bindings
pub mod Factor
pub mod RunsMean
pub mod TheLaws
pub mod TogetherLaw
pub mod LinearFaults
pub mod MirrorsLaw
pub mod ChoicesLemmas
mod Samples
pub mod NamesBindNothing
pub mod FiniteLaw
pub mod Heights
pub mod FirstRunLaw
pub mod StopsLaw
pub mod ClausesLaw
