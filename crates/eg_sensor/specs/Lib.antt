pub mod Readings
pub mod Brake
