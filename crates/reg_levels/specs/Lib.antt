pub mod RequiredPairs
pub mod LevelVerdict
pub mod Message
pub mod Texts
pub mod Judgement
pub mod JudgedError
