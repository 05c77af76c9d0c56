pub mod Deletes
pub mod Keep
pub mod KeptState
pub mod Opening
pub mod Outcomes
pub mod Pen
pub mod Pending
pub mod Writing
