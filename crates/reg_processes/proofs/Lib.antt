pub mod Alike
pub mod Chains
pub mod Examples
pub mod Existence
pub mod Ids
pub mod Items
pub mod Offsets
