pub mod Findings
pub mod Tallies
pub mod Texts
pub mod Replay
pub mod Running
pub mod Agreement
pub mod Inner
