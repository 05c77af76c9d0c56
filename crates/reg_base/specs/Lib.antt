pub mod Base
pub mod Refusals
