pub mod Instructions
pub mod Machine
pub mod Memory
pub mod World
pub mod Program
pub mod Steps
pub mod Alone
