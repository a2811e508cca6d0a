pub mod AnswersLemmas
pub mod ExcessLemmas
pub mod LimitLemmas
pub mod MeansClasses
pub mod MeansLemmas
pub mod MeansRows
pub mod SourceLemmas
mod Worked
