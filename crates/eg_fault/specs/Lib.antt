pub mod Effects
pub mod Faults
pub mod Running
pub mod Classes
pub mod Names
