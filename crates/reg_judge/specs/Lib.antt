pub mod Judge
pub mod Kept
pub mod LastJudged
