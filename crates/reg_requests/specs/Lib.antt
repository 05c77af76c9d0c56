pub mod Action
pub mod Asked
pub mod Body
pub mod Seen
pub use Rattle.reg_leader.specs.avro_schema
pub use Rattle.reg_leader.specs.reg_fold
pub use Rattle.reg_leader.specs as reg_leader
pub use Rattle.reg_lookup.specs as reg_lookup
pub use Rattle.reg_messages.specs as reg_messages
pub use Rattle.reg_leader.specs.reg_records
pub use Rattle.reg_leader.specs.reg_refusals
pub use Rattle.reg_routes.specs as reg_routes
pub use Rattle.reg_leader.specs.reg_set
