mod Brought
pub mod Device
pub mod Errors
pub mod Floor
pub mod Json
pub mod Key
pub mod Line
pub mod Log
pub mod LogSteps
pub mod Pieces
pub mod TextLine
pub mod Written
pub mod WrittenValue
