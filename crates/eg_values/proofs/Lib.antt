pub mod ReferenceLemmas
pub mod CalibrationLemmas
mod Worked
