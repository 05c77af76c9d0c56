pub mod Ends
pub mod Floors
mod Lines
mod Logs
mod Tabs
mod TextLines
pub mod ReadsBack
pub mod Fields
pub mod Controls
pub mod Grammar
pub mod Shown
pub mod WrittenLines
