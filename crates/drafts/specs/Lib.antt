pub mod Draft
pub mod Code
