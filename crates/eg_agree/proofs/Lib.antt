pub mod BoolLaws
pub mod MomentLemmas
pub mod HistoryLemmas
pub mod ModuleLemmas
pub mod SignalLemmas
pub mod DebounceLemmas
pub mod TickLemmas
pub mod Worked
pub mod ReplyShapes
pub mod ReplySteps
pub mod ReplyLaws
mod ReplyWorked
pub mod WholeRuns
