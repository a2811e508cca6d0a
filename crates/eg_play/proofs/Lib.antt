pub mod SurplusLaws
pub mod MarginLaws
pub mod LeastLimitLaws
pub mod HeadlineLemmas
pub mod PlayLemmas
pub mod SweepLemmas
pub mod RowLemmas
