pub mod Permit
pub mod Ramp
pub mod Excess
pub use Rattle.eg_num.specs.Arithmetic
pub use Rattle.eg_num.specs.Interpolation
