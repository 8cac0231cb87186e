pub mod Updating
pub mod Became
