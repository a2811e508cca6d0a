pub mod TallyLemmas
pub mod TellLemmas
pub mod RunLemmas
pub mod AgreeLemmas
pub mod AgreeRuns
mod FindingsWorked
mod Worked
