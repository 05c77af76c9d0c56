mod BroughtValues
pub mod WithNormal
pub mod OfKeys
pub mod ReadsBack
pub use Rattle.reg_records.proofs as reg_records_proofs
