pub mod TableLemmas
pub mod HeldLemmas
pub mod RuleLemmas
pub mod TickLemmas
pub mod DriveLemmas
pub mod OwnLemmas
pub mod Worked
