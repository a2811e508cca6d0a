pub mod CountLemmas
pub mod ActingLemmas
pub mod LawLemmas
pub mod CommaLemmas
mod Worked
pub mod GridLemmas
pub mod ListedLemmas
pub mod GreatestLemmas
pub mod RowLemmas
pub mod PairLemmas
pub mod TextLemmas
pub mod TableLemmas
pub mod BoundLemmas
mod WorkedSweep
