mod Alike
mod Desks
mod Folds
mod Openings
mod Sketches
mod Unions
mod Waited
mod WordLists
