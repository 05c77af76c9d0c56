pub mod Ending
pub mod Joined
pub mod Joining
pub mod Memory
pub mod Taking
