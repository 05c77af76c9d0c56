mod Asides
mod Compacts
mod Counts
mod Drops
pub mod Fronts
mod Full
mod Greatest
mod Kept
mod Lasts
mod Marks
mod Offsets
mod Orders
mod Pieces
mod Saying
mod Shrinks
mod Sizes
mod ToFloor
mod Walked
