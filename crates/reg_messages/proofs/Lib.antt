pub mod BodiesTaken
pub mod Counts
mod Examples
pub mod Extents
pub mod FrontsRead
pub mod Fronts
pub mod Gets
pub mod Heads
pub mod Numerals
pub mod Places
pub mod ReadsLeft
