pub mod Begun
pub mod Caught
pub mod Drawn
pub mod Lasts
pub mod Members
pub mod Prefixes
