mod Asking
mod Lines
mod Spelling
