pub mod FirstClash
pub mod Considered
pub mod LookedAt
pub mod Examples
pub mod Rising
pub mod Alike
