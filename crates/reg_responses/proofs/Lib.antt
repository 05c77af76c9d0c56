pub mod Ended
pub mod Examples
pub mod HavePhrases
pub mod Listing
pub mod Phrases
pub mod States
pub mod Written
