pub mod StreamLemmas
pub mod LawLemmas
pub mod BeginLemmas
pub mod MeasuringLemmas
pub mod LineLemmas
pub mod TakenLemmas
pub mod PartnerLemmas
pub mod TickingLemmas
pub mod Spoken
pub mod SpokenRuns
pub mod RowLemmas
pub mod HeadlineLemmas
pub mod UsedLemmas
pub mod CouplingLemmas
mod Worked
