pub mod AccessLemmas
pub mod WordsLemmas
pub mod KeepsLemmas
pub mod Worked
