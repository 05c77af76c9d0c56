-- What a mode permits: nothing is said, or why not.
use Rattle.std.specs.Prelude.{Bool, true, false, ◌&&◌, not, Result, Ok, Err, if◌then◌else◌}
use Rattle.reg_fold.specs.reg_entries.Sought.{has_live}
use Rattle.reg_fold.specs.reg_refusals.declared.reason.Reason.{Reason}
use Rattle.reg_fold.specs.reg_refusals.declared.reason.Reason.TheVariants as reasons
use Rattle.reg_fold.specs.reg_refusals.declared.refusal.Refusal.{Refusal}
use Rattle.reg_fold.specs.reg_refusals.declared.refusal.Refusal.TheVariants.{NotPermitted}
use Rattle.reg_fold.specs.reg_set.Records.{Records}
use Rattle.reg_fold.specs.Entries.{entries}
use Rattle.reg_fold.specs.InForce.{Scope}
use Rattle.reg_modes.specs.declared.mode.Mode.{Mode}
use Rattle.reg_modes.specs.declared.mode.Mode.TheVariants.{Readwrite, Readonly, Import}

abbrev pub Permit : Type 0
Permit = Result (Unit {0}) Refusal

abbrev pub granted : Permit
granted = Ok tt

abbrev pub denied : Reason → Permit
denied reason = Err (NotPermitted reason)

-- a registration, with an id or without one
abbrev pub may_register : Mode → Bool → Permit
may_register Readonly has_id = denied reasons.Readonly
may_register Readwrite true = denied reasons.IdNeedsImport
may_register Readwrite false = granted
may_register Import true = granted
may_register Import false = denied reasons.ImportNeedsId

-- a delete, or a change of a level
abbrev pub may_write : Mode → Permit
may_write Readonly = denied reasons.Readonly
may_write Readwrite = granted
may_write Import = granted

-- setting IMPORT: not over a live version of the scope, unless it is forced
abbrev pub may_set_import : Records → Scope → Bool → Permit
may_set_import rs scope force =
    if not force && has_live (entries rs) scope then denied reasons.ScopeIsNotEmpty else granted
