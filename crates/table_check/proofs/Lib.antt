pub mod Counted
pub mod Here
pub mod Left
pub mod Marked
pub mod TableBlock
pub mod Within
