pub mod Core
pub mod Eager
pub mod Happens
pub mod Headline
pub mod LowerLaws
pub mod Runs
pub mod State
pub mod Threads
