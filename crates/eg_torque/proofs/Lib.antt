pub mod PermitLemmas
mod Worked
