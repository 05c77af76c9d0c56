pub mod Candidate
pub mod Complete
