pub mod DieselLemmas
pub mod DieselLaws
pub mod Worked
