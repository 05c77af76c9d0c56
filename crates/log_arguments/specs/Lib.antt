pub mod Line
pub mod Values
pub mod Asked
pub mod Variables
