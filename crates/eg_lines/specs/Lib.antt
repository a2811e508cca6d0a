pub mod Lines
pub mod Sources
pub mod Readers
pub mod Late
