pub mod PlaceLemmas
pub mod StoreLemmas
pub mod MakesLemmas
pub mod SignalLemmas
pub mod OrderLemmas
pub mod PortLemmas
pub mod ModuleLemmas
pub mod DebounceLemmas
pub mod ResultLemmas
pub mod StepLemmas
pub mod TickSteps
pub mod FlowSteps
pub mod FoldSteps
pub mod SteadyLemmas
pub mod RowLemmas
pub mod Worked
mod WorkedFlow
