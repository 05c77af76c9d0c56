pub mod Intake
pub mod Pieces
