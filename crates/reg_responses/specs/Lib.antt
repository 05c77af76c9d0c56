pub mod Phrases
pub mod Pieces
pub mod Reply
pub mod Response
pub mod Writing
