pub mod Words
pub mod Laid
pub mod Lost
pub mod Pieces
pub mod Wrote
