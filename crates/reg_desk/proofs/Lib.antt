pub mod Fresh
pub mod Fronts
pub mod Learnt
pub mod Plain
pub mod Told
