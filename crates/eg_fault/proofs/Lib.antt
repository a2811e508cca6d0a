pub mod ActingLemmas
pub mod RunningLemmas
pub mod ClassLemmas
pub mod Worked
pub mod ItemLemmas
pub mod NameLemmas
