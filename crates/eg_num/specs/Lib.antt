pub mod Arithmetic
pub mod Interpolation
pub mod Drive
pub mod Windows
pub mod Counting
pub mod Places
pub mod Inner
