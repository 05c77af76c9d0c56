mod Covered
mod Logs
mod WithMark
mod Opened
mod Rooms
mod Starts
mod Submitted
