pub mod Reads
pub mod Worth
pub mod Steps
pub mod Room
pub mod Readable
