pub mod Equality
pub mod Growing
pub mod Held
pub mod Keeping
pub mod Leaving
pub mod Members
pub mod Rising
