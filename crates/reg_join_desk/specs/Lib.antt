pub mod Hidden
pub mod JoinedDesk
