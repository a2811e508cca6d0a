pub mod Working
pub mod Judging
