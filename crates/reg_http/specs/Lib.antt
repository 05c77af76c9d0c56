pub mod Ends
pub mod Requests
pub mod Serve
pub mod ServeSteps
