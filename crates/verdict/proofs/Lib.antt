pub mod Left
pub mod Room
pub mod Chains
pub mod AcceptedEntries
pub mod Permissions
pub mod Nested
pub mod Searching
pub mod Judged
