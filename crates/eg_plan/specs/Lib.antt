pub mod Keys
pub mod Refusals
pub mod Contents
pub mod Checks
pub mod Classes
pub mod Faults
pub mod Runs
pub mod Campaign
pub mod Ticks
pub mod Playable
pub mod DriveNumbers
pub mod Rules
pub mod Accepted
pub mod Inner
pub use Rattle.eg_toml.specs.Documents
pub use Rattle.eg_toml.specs.Refusals as TomlRefusals
