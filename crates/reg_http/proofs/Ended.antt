-- What the writer's last call answered, after a step and after all steps.
use Rattle.std.proofs.Common.{◌≡◌, ◌+◌, ℕ, List, ◌∙◌, arith, subst, sym, None, Some}
use Rattle.std.specs.Prelude.{⊤, Option, Result, Ok}
use Rattle.std.specs.declared.io.Error.{Error}
use Rattle.reg_records.specs.Device.{inner_of}
use Rattle.reg_records.specs.declared.device.Device.{Device}
use Rattle.reg_responses.specs.Writing.{IsFlushed}
use Rattle.reg_http.specs.Ends.{EndsAfter, EndsRefused, EndsStep, EndsStepRefused}
use Rattle.reg_http.specs.declared.outcome.RequestOutcome.{RequestOutcome}
use Rattle.reg_http.specs.declared.serving.ServeError.{ServeError}
use Rattle.reg_http.specs.declared.serving.ServeError.TheVariants as errors

module _ {W : Type 0} (writes : W → List ℕ → Result ℕ Error → W → Type 0) (flushes : W → Result ⊤ Error → W → Type 0) where
  -- after no request
  pub EndsAfter-begun : (before after : Device W) → inner_of after ≡ inner_of before → EndsAfter writes flushes 0 before after
  EndsAfter-begun before after same = (λ _. same, λ some. absurd (omega (arith, some)))

  -- after one more request
  pub EndsAfter-more : (before mid after : Device W) (count : ℕ) (found : Option RequestOutcome) (outcome : RequestOutcome)
      → found ≡ Some outcome → EndsStep writes flushes mid after found → EndsAfter writes flushes (count + 1) before after
  EndsAfter-more before mid after count found outcome is ends =
      (λ none. absurd (omega (arith, none)), λ _. subst (λ o. EndsStep writes flushes mid after o) is ends)

  moved : (mid after : Device W) → inner_of after ≡ inner_of mid → IsFlushed writes flushes mid → IsFlushed writes flushes after
  moved mid after same (before, flushed) = (before, subst (λ w. flushes before (Ok tt) w) (sym same) flushed)

  -- where no request is left
  pub EndsAfter-kept : (before mid after : Device W) (count : ℕ) → inner_of after ≡ inner_of mid → EndsAfter writes flushes count before mid
      → EndsAfter writes flushes count before after
  EndsAfter-kept before mid after count same (none, some) = (λ e. same ∙ none e, λ e. moved mid after same (some e))

  pub EndsAfter-over : (before mid after : Device W) (count : ℕ) (found : Option RequestOutcome) → found ≡ None
      → EndsStep writes flushes mid after found → EndsAfter writes flushes count before mid → EndsAfter writes flushes count before after
  EndsAfter-over before mid after count found is ends =
      EndsAfter-kept before mid after count (subst (λ o. EndsStep writes flushes mid after o) is ends)

  -- where a step failed
  pub EndsRefused-step : (before mid after : Device W) (count : ℕ) (e : ServeError) → EndsAfter writes flushes count before mid
      → EndsStepRefused writes flushes mid after e → EndsRefused writes flushes before after e
  EndsRefused-step before mid after count errors.ReadFault ends same = (count, EndsAfter-kept before mid after count same ends)
  EndsRefused-step before mid after count errors.WriteFault ends lost = lost
