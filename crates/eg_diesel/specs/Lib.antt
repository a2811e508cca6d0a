pub mod Diesel
pub mod Keeping
pub use Rattle.eg_plant.specs.Engine
pub use Rattle.eg_plant.specs.PlantParts
