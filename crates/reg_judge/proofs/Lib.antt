pub mod Keeping
pub mod Last
pub mod LookedAt
pub mod Refused
pub mod Runs
pub mod TextsOut
pub mod Texts
pub mod Using
