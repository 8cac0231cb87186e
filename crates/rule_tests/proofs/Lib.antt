pub mod Bounded
pub mod Fitting
pub mod GoodLevels
pub mod Made
