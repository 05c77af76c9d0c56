pub mod Allow
pub mod Reason
pub mod Refusal
