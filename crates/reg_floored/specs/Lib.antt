pub mod Compaction
pub mod Floored
pub mod Floors
pub mod Laws
