pub mod Bytes
pub mod Calls
pub mod Claims
pub mod Kept
pub mod Running
pub mod Woven
