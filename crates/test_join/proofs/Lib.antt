pub mod Begun
pub mod Telling
