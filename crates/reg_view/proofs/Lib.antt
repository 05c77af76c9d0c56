pub mod Alike
pub mod Matters
