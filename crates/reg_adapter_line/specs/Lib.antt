pub mod Answers
pub mod Exchanges
pub mod Messages
pub mod Reading
