pub mod LineLemmas
pub mod ComingLemmas
pub mod InputsLemmas
pub mod NameLemmas
pub mod ShownLemmas
