pub mod TickMore
pub mod Running
