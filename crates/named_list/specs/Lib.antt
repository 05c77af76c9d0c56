pub mod Distinct
pub mod Index
pub mod Slots
