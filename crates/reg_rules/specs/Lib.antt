pub mod Better
pub mod Finding
pub mod Report
pub mod Standing
pub mod Tests
pub mod Writings
pub use Rattle.reg_modes.specs.avro_schema
pub use Rattle.reg_modes.specs.reg_entries
pub use Rattle.reg_modes.specs.reg_fold
pub use Rattle.reg_modes.specs.reg_level_names
pub use Rattle.reg_levels.specs as reg_levels
pub use Rattle.reg_modes.specs as reg_modes
pub use Rattle.reg_modes.specs.reg_records
pub use Rattle.reg_modes.specs.reg_refusals
pub use Rattle.reg_modes.specs.reg_set
pub use Rattle.reg_modes.specs.reg_values
