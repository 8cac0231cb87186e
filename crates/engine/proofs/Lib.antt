pub mod Decided
pub mod Judged
