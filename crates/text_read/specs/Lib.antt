pub mod Levels
pub mod Stands
