pub mod Regions
pub mod Memory
pub mod Stingy
