pub mod Levels
pub mod Apart
pub mod RuleSets
pub mod Together
