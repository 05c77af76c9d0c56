use Rattle.std.proofs.Common.{◌≡◌, map, take}
use Rattle.std.specs.List.{filter}
use Rattle.std.specs.Option.{option_copied}
use Rattle.reg_rules.specs.Standing.{is_of}
use Rattle.reg_modes.specs.reg_entries.Sought.{newest}
use Rattle.reg_rules.proofs.schemas.newest_import.Given as goal

abbrev pub invariant-loop-entry : goal.invariant-loop-entry
invariant-loop-entry l = option_copied l.best ≡ newest (filter (is_of l.id l.normal) (take l.entry-index (map (λ e. e.now) l.entries)))
