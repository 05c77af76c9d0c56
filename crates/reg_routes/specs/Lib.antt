pub mod Adding
pub mod Endpoint
pub mod Query
pub mod Router
pub mod Routes
pub mod Target
