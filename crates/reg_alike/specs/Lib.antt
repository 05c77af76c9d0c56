pub mod AnswerAlike
pub mod GiveAlike
pub mod StepAlike
pub use Rattle.reg_leader.specs.avro_schema
pub use Rattle.reg_leader.specs.reg_entries
pub use Rattle.reg_floored.specs as reg_floored
pub use Rattle.reg_leader.specs.reg_fold
pub use Rattle.reg_leader.specs as reg_leader
pub use Rattle.reg_leader.specs.reg_level_names
pub use Rattle.reg_leader.specs.reg_levels
pub use Rattle.reg_lookup.specs as reg_lookup
pub use Rattle.reg_leader.specs.reg_modes
pub use Rattle.reg_leader.specs.reg_records
pub use Rattle.reg_leader.specs.reg_refusals
pub use Rattle.reg_leader.specs.reg_rules
pub use Rattle.reg_leader.specs.reg_set
pub use Rattle.reg_leader.specs.reg_values
