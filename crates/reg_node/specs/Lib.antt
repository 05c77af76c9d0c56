pub mod Caught
pub mod Takes
