pub mod Standing
pub mod Marks
pub mod AfterLaws
pub mod Judgement
pub mod Outcomes
pub mod Updates
