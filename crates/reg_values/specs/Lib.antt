pub mod Brought
pub mod Value
pub mod OfKey
pub mod WithNormal
pub use Rattle.avro_schema.specs as avro_schema
pub use Rattle.reg_level_names.specs as reg_level_names
pub use Rattle.reg_records.specs as reg_records
