-- Private: a step of the loops that look for the entry of greatest version.
use Rattle.std.specs.Prelude.{Bool, true, false, Option, Some}
use Rattle.std.specs.Option.{option_map_or}
use Rattle.std.specs.Ordering.{nat_cmp, on, ord_max}
use Rattle.reg_modes.specs.reg_entries.declared.entry.Entry.{Entry}

-- of the best so far and an entry, if it counts, the one of greater version
abbrev pub better : Bool → Entry → Option Entry → Option Entry
better true e best = Some (option_map_or (λ found. ord_max (on (λ e. e.version) nat_cmp) found e) best e)
better false e best = best
