pub mod InterpolationLemmas
pub mod RisingLemmas
pub mod WindowLemmas
pub mod FirstIndexLemmas
pub mod CounterLemmas
pub mod PlaceLemmas
pub mod Worked
