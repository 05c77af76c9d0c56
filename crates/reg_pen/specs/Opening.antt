-- What the keep has of the start of a topic, and why a pen isn't opened.
use Rattle.std.specs.Prelude.{◌≡◌, ◌≢◌, ◌⊎◌, ℕ, List, [], ◌∷◌, codes}
use Rattle.std.specs.FinSet.{from_list}
use Rattle.reg_records.specs.declared.record.Record.{Record}
use Rattle.reg_set.specs.LastRecords.{last_records}
use Rattle.reg_leader.specs.Adoption.{IsAdoptRefusal, adopt_error_text}
use Rattle.reg_leader.specs.declared.adoption.AdoptError.TheVariants as adopts
use Rattle.reg_topic.specs.Topic.{owed_by}
use Rattle.reg_pen.specs.declared.keep.Kept.{Kept}
use Rattle.reg_pen.specs.declared.keep.Kept.TheVariants.{Taken, Declined, Lost, Unknown}
use Rattle.reg_pen.specs.declared.open_error.OpenError.{OpenError}
use Rattle.reg_pen.specs.declared.open_error.OpenError.TheVariants as errors

-- the text of the cause
abbrev pub open_error_text : OpenError → List ℕ
open_error_text (errors.Adopt refused) = adopt_error_text refused
open_error_text (errors.Declined lack) = codes "mark of ids declined"
open_error_text errors.Lost = codes "mark of ids lost"

module _ {K : Type 0} (keeps : K → List Record → Kept → K → Type 0) where
  -- the keep has taken what is due, if anything is
  abbrev pub KeepsDue : K → List Record → K → Type 0
  KeepsDue old [] new = new ≡ old
  KeepsDue old (r ∷ rs) new = keeps old (r ∷ rs) Taken new

  -- the keep didn't take what is due: it declined it, or whether it has it isn't known
  abbrev pub IsKeepRefusal : K → List Record → OpenError → Type 0
  IsKeepRefusal old due (errors.Adopt refused) = ⊥
  IsKeepRefusal old due (errors.Declined lack) = (due ≢ []) × (new : K) × keeps old due (Declined lack) new
  IsKeepRefusal old due errors.Lost = (due ≢ []) × (new : K) × (keeps old due Lost new ⊎ keeps old due Unknown new)

  -- memory was refused, or the keep didn't take what is due
  abbrev pub IsBegunRefusal : K → List Record → OpenError → Type 0
  IsBegunRefusal old due (errors.Adopt refused) = refused ≡ adopts.OutOfMemory
  IsBegunRefusal old due (errors.Declined lack) = IsKeepRefusal old due (errors.Declined lack)
  IsBegunRefusal old due errors.Lost = IsKeepRefusal old due errors.Lost

  -- a topic can't begin with the log, or the keep didn't take what the log owes
  abbrev pub IsOpenRefusal : List Record → ℕ → K → OpenError → Type 0
  IsOpenRefusal base next old (errors.Adopt refused) = IsAdoptRefusal (last_records (from_list base)) next refused
  IsOpenRefusal base next old (errors.Declined lack) = IsKeepRefusal old (owed_by base next) (errors.Declined lack)
  IsOpenRefusal base next old errors.Lost = IsKeepRefusal old (owed_by base next) errors.Lost
