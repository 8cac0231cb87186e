pub mod Lists
pub mod First
pub mod Bytes
pub mod Sums
