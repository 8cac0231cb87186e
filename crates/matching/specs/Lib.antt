pub mod Levels
pub mod Masks
pub mod Sets
