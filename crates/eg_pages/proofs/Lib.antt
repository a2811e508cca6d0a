pub mod JoinedLemmas
pub mod PageLemmas
