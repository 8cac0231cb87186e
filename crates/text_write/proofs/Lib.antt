pub mod Ranges
pub mod Laying
pub mod Naming
pub mod Texts
pub mod Faults
pub mod Accepted
pub mod Turns
pub mod Whole
