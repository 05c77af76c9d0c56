pub mod Invariant
pub mod Ordered
