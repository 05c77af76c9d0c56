pub mod Verdicts
pub mod Steps
pub mod Events
pub mod CatchingUp
