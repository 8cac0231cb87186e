pub mod FormExamples
pub mod NameExamples
pub mod Pieces
pub mod ReadExamples
pub mod WriteExamples
