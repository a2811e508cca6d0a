pub mod MachineLemmas
pub mod WorldLemmas
pub mod StepLaws
pub mod ProgramLemmas
pub mod AloneLemmas
