pub mod Streams
pub mod Recordings
pub mod Coupled
pub mod Texts
pub mod Headline
pub mod Used
pub mod Couplings
pub mod Inner
