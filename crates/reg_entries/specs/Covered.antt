-- Entries under the soft deletes of their subjects.
use Rattle.std.specs.Prelude.{ℕ, Bool, false, ◌&&◌, ◌||◌, nat_le, nat_lt, List, Option, map}
use Rattle.std.specs.BTreeMap.{BTreeMap, get_by_text}
use Rattle.std.specs.Option.{option_map_or}
use Rattle.std.specs.declared.string.String.{String}
use Rattle.reg_entries.specs.Flagged.{with_soft}
use Rattle.reg_entries.specs.declared.entry.Entry.{Entry}
use Rattle.reg_entries.specs.declared.soft_delete.SoftDelete.{SoftDelete}

-- whether a soft delete, if there is one, covers what is at that version and offset
abbrev pub is_covered : Option SoftDelete → ℕ → ℕ → Bool
is_covered delete version offset = option_map_or (λ d. nat_le version d.version && nat_lt offset d.offset) delete false

-- an entry under a soft delete of its subject, if there is one: soft by its own flag, or covered
abbrev pub under : Option SoftDelete → Entry → Entry
under delete e = with_soft (e.soft || is_covered delete e.version e.offset) e

-- an entry under the last soft delete of its subject
abbrev pub shown : {Y : Type 0} → BTreeMap (String Y) SoftDelete → Entry → Entry
shown deletes e = under (get_by_text deletes e.subject) e

-- each entry under the last soft delete of its subject
abbrev pub shown_all : {Y : Type 0} → BTreeMap (String Y) SoftDelete → List Entry → List Entry
shown_all deletes es = map (shown deletes) es
