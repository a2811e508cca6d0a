pub mod Outside
pub mod Counts
pub mod Fakes
pub mod Streams
pub mod Openers
pub mod Codes
pub mod Inner
