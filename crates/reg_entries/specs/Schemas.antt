-- Private: what is kept of the schemas of the entries, which are kept as a map m by place.
use Rattle.std.specs.Prelude.{◌≡◌, ℕ, Bool, false, ◌&&◌, ◌==◌, bytes_eq, List, Option}
use Rattle.std.specs.Option.{option_map_or}
use Rattle.std.specs.declared.cmp.Ordering.{Ordering}
use Rattle.std.specs.BTreeMap.{BTreeMap}
use Rattle.std.specs.BTreeSet.{BTreeSet, contains}
use Rattle.std.specs.Cmp.Lexicographic.{slice_cmp}
use Rattle.std.specs.Ordering.{nat_cmp, on, then_cmp, eq_by_cmp}
use Rattle.reg_entries.specs.EntryOrder.{Place, place_cmp, place_of}
use Rattle.reg_entries.specs.Index.{entry_at}
use Rattle.reg_entries.specs.declared.entry.Entry.{Entry}

-- a normal text, an id and a place
abbrev pub Schema : Type 0
Schema = List ℕ × ℕ × Place

abbrev pub schema_of : Entry → Schema
schema_of e = (e.normal, e.id, place_of e)

-- by normal text, by its bytes, then by id, then by place
abbrev pub schema_cmp : Schema → Schema → Ordering
schema_cmp = then_cmp (then_cmp (on (λ s. s.0) (slice_cmp nat_cmp)) (on (λ s. s.1) nat_cmp)) (on (λ s. s.2) place_cmp)

-- whether s is that schema, if there is one
abbrev pub is_that : Option Schema → Schema → Bool
is_that o s = option_map_or (λ t. eq_by_cmp schema_cmp t s) o false

-- whether the entry at the place of s has its text and its id
abbrev pub is_held : BTreeMap Place Entry → Schema → Bool
is_held m s = option_map_or (λ e. e.id == s.1 && bytes_eq e.normal s.0) (entry_at m s.2) false

-- the schemas are those of the entries
abbrev pub AreListed : BTreeMap Place Entry → BTreeSet Schema → Type 0
AreListed m schemas = (s : Schema) → contains schema_cmp schemas s ≡ is_held m s
