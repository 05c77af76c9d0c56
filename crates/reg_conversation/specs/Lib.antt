pub mod Conversation
pub mod Pieces
