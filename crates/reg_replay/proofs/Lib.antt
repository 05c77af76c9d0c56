pub mod Complete
pub mod Courses
pub mod Sought
pub mod Written
