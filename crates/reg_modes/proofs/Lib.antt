pub use Rattle.reg_fold.proofs.reg_records_proofs
