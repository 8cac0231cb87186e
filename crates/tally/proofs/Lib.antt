pub mod Lists
pub mod Privileges
pub mod Taken
pub mod Exclusions
