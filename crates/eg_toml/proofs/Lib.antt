pub mod ReadLemmas
pub mod DocumentLemmas
pub mod CommentLemmas
pub mod RangeLemmas
pub mod HeldLemmas
pub mod RisingLemmas
pub mod RefusalLemmas
pub mod WeightLemmas
mod Worked
pub mod WeightLawLemmas
