pub mod Midway
