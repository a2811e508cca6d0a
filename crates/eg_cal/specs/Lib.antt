pub mod Keys
pub mod Faults
pub mod Questions
pub mod Contents
pub mod Checks
pub mod Names
pub mod Calibration
pub mod Answers
pub mod Held
pub mod Rules
pub mod Reference
pub use Rattle.eg_answer.specs.Times
pub use Rattle.eg_toml.specs.Documents
pub use Rattle.eg_toml.specs.Refusals
pub use Rattle.eg_values.specs.Calibration as ValuesCalibration
pub use Rattle.eg_values.specs.Reference as ValuesReference
