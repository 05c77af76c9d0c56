-- Why a log doesn't begin anew at an offset.
use Rattle.std.specs.Prelude.{◌≡◌, ℕ, List, true, false, Ok, codes, Option, IfSome}
use Rattle.std.specs.Io.KnownBytes.{Keeps}
use Rattle.reg_fold.specs.reg_records.Log.{LogText, log_of}
use Rattle.reg_fold.specs.reg_records.declared.log.LogError.{LogError}
use Rattle.reg_journal.specs.Found.{HasFault}
use Rattle.reg_compaction.specs.Filter.{IsFilterRefusal, exit_status as filter_status, filter_error_of, filter_error_text}
use Rattle.reg_base.specs.Base.{EndsAt, is_crossed, owes_mark, records_below}
use Rattle.reg_base.specs.declared.error.BaseError.{BaseError}
use Rattle.reg_base.specs.declared.error.BaseError.TheVariants.{Filter, NoEnd, Crossed, MarkDue}

-- nothing ends right before the offset
pub record HasNoEnd (below : ℕ) (text : List ℕ) : Type 0 where
  pub log : LogText
  pub read : log_of text ≡ Ok log
  pub no_end : ¬ EndsAt below log

-- something does, and a command's records may stand on both sides of it
pub record IsCrossed (below : ℕ) (text : List ℕ) : Type 0 where
  pub log : LogText
  pub read : log_of text ≡ Ok log
  pub ends : EndsAt below log
  pub crossed : is_crossed below log ≡ true

-- none do, and a mark of ids is due there
pub record OwesMark (below : ℕ) (text : List ℕ) : Type 0 where
  pub log : LogText
  pub read : log_of text ≡ Ok log
  pub ends : EndsAt below log
  pub apart : is_crossed below log ≡ false
  pub due : owes_mark (records_below below log) ≡ true

-- the text has that fault, or memory was refused, or no log begins anew at the offset, for that reason
abbrev pub IsNoBase : ℕ → List ℕ → BaseError → Type 0
IsNoBase below text (Filter e) = (cause : LogError) × HasFault text cause × (e ≡ filter_error_of cause)
IsNoBase below text NoEnd = HasNoEnd below text
IsNoBase below text Crossed = IsCrossed below text
IsNoBase below text MarkDue = OwesMark below text

-- so for a filter; where the offset is refused nothing was written
abbrev pub IsBaseRefusal : ℕ → Option (List ℕ) → Option (List ℕ) → Option (List ℕ) → BaseError → Type 0
IsBaseRefusal below input old new (Filter e) = IsFilterRefusal input old new e
IsBaseRefusal below input old new NoEnd = IfSome input (HasNoEnd below) × Keeps old new
IsBaseRefusal below input old new Crossed = IfSome input (IsCrossed below) × Keeps old new
IsBaseRefusal below input old new MarkDue = IfSome input (OwesMark below) × Keeps old new

-- its text
abbrev pub base_error_text : BaseError → List ℕ
base_error_text (Filter e) = filter_error_text e
base_error_text NoEnd = codes "nothing ends right before that offset"
base_error_text Crossed = codes "a command's records may stand on both sides of that offset"
base_error_text MarkDue = codes "a mark of ids is due at that offset"

-- the exit status of a program that ends with it
abbrev pub exit_status : BaseError → ℕ
exit_status (Filter e) = filter_status e
exit_status NoEnd = 2
exit_status Crossed = 2
exit_status MarkDue = 2
