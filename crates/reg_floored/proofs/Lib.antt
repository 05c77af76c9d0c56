pub mod Compactions
pub mod Drops
pub mod Equality
pub mod Examples
pub mod Left
pub mod Sets
