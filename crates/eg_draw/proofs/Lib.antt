pub mod DrawLemmas
pub mod StretchLemmas
pub mod ProperLemmas
pub mod WholeDraw
