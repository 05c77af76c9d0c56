pub mod AtPair
pub mod Yes
pub mod Along
pub mod RoomLaws
pub mod ReadableLaws
mod Examples
mod MemberLaws
