pub mod ByKey
pub mod Compaction
pub mod Index
pub mod Join
pub mod LastRecords
pub mod RecordOrder
pub mod Records
