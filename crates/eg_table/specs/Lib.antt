pub mod Acting
pub mod Laws
pub mod Texts
pub mod Margins
pub mod Grid
pub mod Sweep
pub mod SweepTexts
pub mod SweepLaws
