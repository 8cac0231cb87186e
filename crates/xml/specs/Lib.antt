pub mod Grammar
pub mod Tags
pub mod Names
pub mod Blocks
pub mod Read
pub mod Write
