pub mod FoldLemmas
pub mod ResultWords
pub mod TokenLemmas
mod Worked
pub mod QuotientLemmas
pub mod BrakingLemmas
