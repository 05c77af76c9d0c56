pub mod Courses
pub mod Taking
