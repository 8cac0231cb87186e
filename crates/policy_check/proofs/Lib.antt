pub mod BlankLevel
pub mod BlockFields
pub mod PolicyBlock
pub mod Sized
pub mod Lengths
pub mod Stamps
pub mod Entry
