pub mod Facts
pub mod Soak
pub mod Texts
pub use Rattle.eg_model.specs.EngineRuns
