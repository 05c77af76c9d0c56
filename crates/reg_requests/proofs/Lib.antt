pub mod Endpoints
mod Examples
mod Texts
pub use Rattle.reg_messages.proofs as reg_messages_proofs
pub use Rattle.reg_leader.proofs.reg_records_proofs
