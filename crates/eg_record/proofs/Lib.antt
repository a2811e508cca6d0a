pub mod RowsLemmas
pub mod SpanLemmas
pub mod ExcessLemmas
pub mod FirstLemmas
pub mod ColumnsLemmas
pub mod NamesLemmas
pub mod WatchLemmas
pub mod GivenLemmas
pub mod LawLemmas
pub mod LastOnLemmas
pub mod FactLemmas
pub mod ReactionLemmas
pub mod StretchLemmas
pub mod TallyLemmas
pub mod MarginLemmas
mod Worked
mod MarginsWorked
pub mod AsciiLemmas
