pub mod Tally
pub mod Verdict
pub mod NewTable
pub mod Decide
pub mod Close
pub mod Preview
pub mod Sample
pub mod Written
