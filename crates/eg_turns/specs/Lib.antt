pub mod Board
pub mod Midway
pub mod Working
pub mod Inner
pub use Rattle.eg_fault.specs.Faults
pub use Rattle.eg_host.specs.Slices
pub use Rattle.eg_level2.specs.Ticks
