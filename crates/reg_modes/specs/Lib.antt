pub mod InForce
pub mod Mode
pub mod Permitted
pub use Rattle.reg_fold.specs.avro_schema
pub use Rattle.reg_fold.specs.reg_entries
pub use Rattle.reg_fold.specs as reg_fold
pub use Rattle.reg_fold.specs.reg_level_names
pub use Rattle.reg_fold.specs.reg_records
pub use Rattle.reg_fold.specs.reg_refusals
pub use Rattle.reg_fold.specs.reg_set
pub use Rattle.reg_fold.specs.reg_values
