pub mod Unread
pub mod Plain
