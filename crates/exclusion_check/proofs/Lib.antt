pub mod BlankParts
pub mod ByKind
pub mod Sized
