pub mod PlantParts
pub mod Engine
pub mod Gasoline
pub mod Keeping
pub mod Foreign
pub mod EngineKinds
