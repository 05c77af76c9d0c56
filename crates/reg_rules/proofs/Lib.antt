pub mod Known
pub mod LookedAt
pub mod Newest
pub mod Numbering
pub mod Readings
pub mod Verdicts
pub use Rattle.reg_modes.proofs.reg_records_proofs
