pub mod Laws
pub mod Process
