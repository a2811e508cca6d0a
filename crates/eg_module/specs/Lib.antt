pub mod Monitoring
pub mod Inside
pub use Rattle.eg_answer.specs.Periods
pub use Rattle.eg_num.specs.Counting
pub use Rattle.eg_num.specs.Windows
