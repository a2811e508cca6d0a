pub mod Calibration
pub mod Excess
pub mod Reference
