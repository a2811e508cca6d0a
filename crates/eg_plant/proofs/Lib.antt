pub mod PlantLemmas
pub mod Worked
