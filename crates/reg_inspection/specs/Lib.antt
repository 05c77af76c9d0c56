pub mod Cause
pub mod Counts
pub mod Foreign
pub mod Inspection
pub mod Obstacles
pub mod Report
pub mod Shared
