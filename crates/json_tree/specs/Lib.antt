pub mod Members
pub mod View
