pub mod Distinct
pub mod Hashed
pub mod Places
pub mod Ordered
pub mod Slotted
