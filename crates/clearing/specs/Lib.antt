pub mod Cleared
pub mod Settling
