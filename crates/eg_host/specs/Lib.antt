pub mod Slices
pub use Rattle.eg_word.specs.Program
pub use Rattle.eg_word.specs.World
pub mod Level1
