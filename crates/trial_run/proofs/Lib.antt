pub mod Reading
pub mod Deciding
