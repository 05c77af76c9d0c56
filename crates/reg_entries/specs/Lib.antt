pub mod Covered
pub mod EntryOrder
pub mod Index
pub mod Flagged
pub mod Meanings
pub mod Schemas
pub mod Sought
pub mod TwoSchemas
