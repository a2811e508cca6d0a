pub mod Usable
pub mod Rows
pub mod Encodings
pub mod Room
pub mod Kept
pub mod Linking
