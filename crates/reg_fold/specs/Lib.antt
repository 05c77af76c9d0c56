pub mod Closed
pub mod Entries
pub use Rattle.reg_entries.specs.EntryOrder
pub mod GiveAlike
pub mod IdMark
pub mod InForce
pub mod Kept
pub mod Covers
pub mod Opaque
pub mod Own
pub mod Scopes
pub mod SoftDeletes
pub mod Spots
pub mod Standing
pub mod Step
pub mod Tombstones
pub use Rattle.reg_values.specs.avro_schema
pub use Rattle.reg_entries.specs as reg_entries
pub use Rattle.reg_values.specs.reg_level_names
pub use Rattle.reg_values.specs.reg_records
pub use Rattle.reg_refusals.specs as reg_refusals
pub use Rattle.reg_set.specs as reg_set
pub use Rattle.reg_values.specs as reg_values
