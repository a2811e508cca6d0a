pub mod Gathered
pub mod Performed
pub mod Missing
pub mod Ends
pub mod Unlined
pub mod Headline
pub use Rattle.eg_outcome.specs.Outcomes
