pub mod RunsLemmas
pub mod FactsLemmas
pub mod TextLemmas
pub mod SumLemmas
pub mod StartLemmas
mod Worked
