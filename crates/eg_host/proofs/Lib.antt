pub mod RunLemmas
pub mod Worked
pub mod RestLemmas
