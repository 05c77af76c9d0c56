-- What the writer's last call answered, once requests were answered.
use Rattle.std.specs.Prelude.{◌≡◌, ◌<◌, ⊤, ℕ, List, Option, Some, None, Result}
use Rattle.std.specs.declared.io.Error.{Error}
use Rattle.reg_records.specs.Device.{inner_of}
use Rattle.reg_records.specs.declared.device.Device.{Device}
use Rattle.reg_responses.specs.Writing.{IsFlushed, IsLostBy}
use Rattle.reg_http.specs.declared.outcome.RequestOutcome.{RequestOutcome}
use Rattle.reg_http.specs.declared.serving.ServeError.{ServeError}
use Rattle.reg_http.specs.declared.serving.ServeError.TheVariants as errors

module _ {W : Type 0} (writes : W → List ℕ → Result ℕ Error → W → Type 0) (flushes : W → Result ⊤ Error → W → Type 0) where
  -- where there was no request the writer is as it was; else its last call was a flush, which was Ok
  abbrev pub EndsStep : Device W → Device W → Option RequestOutcome → Type 0
  EndsStep before after None = inner_of after ≡ inner_of before
  EndsStep before after (Some outcome) = IsFlushed writes flushes after

  -- the same, once so many requests were answered
  abbrev pub EndsAfter : ℕ → Device W → Device W → Type 0
  EndsAfter count before after = (count ≡ 0 → inner_of after ≡ inner_of before) × (0 < count → IsFlushed writes flushes after)

  -- where the reader failed the writer is as it was; else the writer was lost by its last call
  abbrev pub EndsStepRefused : Device W → Device W → ServeError → Type 0
  EndsStepRefused before after errors.ReadFault = inner_of after ≡ inner_of before
  EndsStepRefused before after errors.WriteFault = IsLostBy writes flushes after

  -- the same, once requests were answered before
  abbrev pub EndsRefused : Device W → Device W → ServeError → Type 0
  EndsRefused before after errors.ReadFault = (count : ℕ) × EndsAfter count before after
  EndsRefused before after errors.WriteFault = IsLostBy writes flushes after
