-- What keeps batches.
use Rattle.std.specs.Prelude.{◌≡◌, List}
use Rattle.reg_records.specs.declared.record.Record.{Record}
use Rattle.reg_refusals.specs.declared.reason.StoreFault.TheVariants as faults
use Rattle.reg_refusals.specs.declared.refusal.Refusal.{Refusal}
use Rattle.reg_refusals.specs.declared.refusal.Refusal.TheVariants.{Store}
use Rattle.reg_pen.specs.declared.keep.Kept.{Kept}
use Rattle.reg_pen.specs.declared.keep.Kept.TheVariants.{Taken}
use Rattle.reg_pen.specs.declared.keep.Lack.{Lack}
use Rattle.reg_pen.specs.declared.keep.Lack.TheVariants as lacks

-- each batch is taken
abbrev pub TakesAll : {K : Type 0} → K → List Record → Kept → K → Type 0
TakesAll keep batch kept keep' = (kept ≡ Taken) × (keep' ≡ keep)

-- the refusal that is told of a batch that was declined
abbrev pub refusal_of : Lack → Refusal
refusal_of lacks.Memory = Store faults.Memory
refusal_of lacks.Numbers = Store faults.NumbersUsedUp
refusal_of lacks.Overtaken = Store faults.Overtaken
refusal_of lacks.Store = Store faults.Declined
