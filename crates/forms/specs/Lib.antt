pub mod Form
pub mod Texts
pub mod Run
pub mod Code
