pub mod Fronts
pub mod Lasts
pub mod Needs
pub mod Texts
pub mod Turns
