pub mod Turns
pub mod Kept
pub mod Examples
pub mod Adequacy
