pub mod Answering
pub mod Connection
pub mod Places
pub mod Sending
pub mod Stream
pub mod TurnKinds
pub mod Waiting
