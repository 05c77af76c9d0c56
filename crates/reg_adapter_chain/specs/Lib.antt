pub mod Batches
pub mod Course
pub mod Laws
pub mod Requests
pub mod Standing
