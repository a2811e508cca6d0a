pub mod HeardLemmas
pub mod VerdictLemmas
mod Worked
