pub mod Left
pub mod After
pub mod Settled
