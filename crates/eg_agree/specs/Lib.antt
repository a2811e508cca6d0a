pub mod Doings
pub mod Standing
pub mod Ticking
pub mod Replies
pub mod Agreement
pub use Rattle.eg_fault.specs.Classes
