pub mod PlayLemmas
pub mod RecordLemmas
mod Worked
pub mod CheckpointLemmas
pub mod AlikeLemmas
pub mod LeaderLemmas
pub mod OneGroup
pub mod AllGroups
pub mod UnderLemmas
mod WorkedGroups
