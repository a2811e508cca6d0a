pub mod TickLemmas
pub mod StartLemmas
pub mod ElseLemmas
pub mod WorkLemmas
pub mod StandsLemmas
pub mod AdvanceLemmas
pub mod CommandLemmas
pub mod MonitorLemmas
pub mod ReactionLemmas
pub mod RunLemmas
pub mod CountLemmas
pub mod RunLaws
pub mod WeighLemmas
pub mod FactLaws
pub mod TrapLemmas
pub mod BranchLemmas
pub mod BranchedRuns
mod FactsWorked
mod Worked
