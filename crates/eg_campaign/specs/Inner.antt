pub mod Keys
pub mod Checkpoints
