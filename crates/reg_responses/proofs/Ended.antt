-- How a writer was lost by its last call.
use Rattle.std.proofs.Common.{◌≡◌, ◌≢◌, inl, inr, ℕ, List}
use Rattle.std.specs.Prelude.{Result, Err, ⊤}
use Rattle.std.specs.IoError.{error_kind}
use Rattle.std.specs.declared.io.Error.{Error}
use Rattle.std.specs.declared.io.ErrorKind.TheVariants.{Interrupted}
use Rattle.reg_leader.specs.reg_records.Device.{inner_of, interruptions_of}
use Rattle.reg_leader.specs.reg_records.declared.device.Device.{Device}
use Rattle.reg_responses.specs.Writing.{HasFailed, IsLostBy}

module _ {W : Type 0} (writes : W → List ℕ → Result ℕ Error → W → Type 0) (flushes : W → Result ⊤ Error → W → Type 0) where
  -- by a flush that failed
  pub lost_by_flush : (before after : Device W) (e : Error) → interruptions_of after ≡ 0 → error_kind e ≢ Interrupted
      → flushes (inner_of before) (Err e) (inner_of after) → IsLostBy writes flushes after
  lost_by_flush before after e none kind failed = inl (none, inr (e, kind, (inner_of before, inl failed)))

  -- by a write that failed
  pub lost_by_write : (before after : Device W) (bytes : List ℕ) (e : Error) → interruptions_of after ≡ 0 → error_kind e ≢ Interrupted
      → writes (inner_of before) bytes (Err e) (inner_of after) → IsLostBy writes flushes after
  lost_by_write before after bytes e none kind failed = inl (none, inr (e, kind, (inner_of before, inr (bytes, failed))))

  -- a write that failed
  pub failed_by_write : (before after : Device W) (bytes : List ℕ) (e : Error) → writes (inner_of before) bytes (Err e) (inner_of after)
      → HasFailed writes flushes after e
  failed_by_write before after bytes e failed = (inner_of before, inr (bytes, failed))
