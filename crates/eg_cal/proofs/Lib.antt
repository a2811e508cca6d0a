pub mod AxisLemmas
pub mod TogetherLemmas
pub mod ReferenceLemmas
pub mod HeldLemmas
pub mod RuleLemmas
pub mod NumberLemmas
mod FoldLemmas
pub mod AnswerLemmas
pub mod NoAnswerLemmas
pub mod Worked
