pub mod Tests
pub mod Laws
pub mod Sequence
pub mod Runs
pub mod Texts
pub mod Examples
