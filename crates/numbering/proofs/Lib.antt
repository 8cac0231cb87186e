pub mod Joins
pub mod Lent
pub mod Body
pub mod Fronts
pub mod Image
