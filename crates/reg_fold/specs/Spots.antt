-- Private: where the versions of a kind are: what a registry keeps of the opaque ones.
use Rattle.std.specs.Prelude.{◌≡◌, ℕ, Bool, false, not, ◌&&◌, ◌==◌, Option, Some, None, option_map, if◌then◌else◌}
use Rattle.std.specs.BTreeSet.{BTreeSet, contains}
use Rattle.std.specs.Option.{option_map_or}
use Rattle.std.specs.Ordering.{eq_by_cmp, nat_cmp, on, then_cmp}
use Rattle.std.specs.declared.cmp.Ordering.{Ordering}
use Rattle.reg_values.specs.reg_records.declared.key.Key.TheVariants as keys
use Rattle.reg_values.specs.reg_records.declared.record.Record.{Record}
use Rattle.reg_set.specs.LastRecords.{last}
use Rattle.reg_set.specs.Records.{Records}
use Rattle.reg_entries.specs.EntryOrder.{Place, place_cmp}

-- the offset of a version's record, and the version's place
abbrev pub Spot : Type 0
Spot = ℕ × Place

abbrev pub spot_cmp : Spot → Spot → Ordering
spot_cmp = then_cmp (on (λ s. s.0) nat_cmp) (on (λ s. s.1) place_cmp)

-- whether that is where a version is whose record is of the kind, where rs are the last records
abbrev pub is_spot : (Record → Bool) → Records → Spot → Bool
is_spot kind rs s = option_map_or (λ r. kind r && eq_by_cmp spot_cmp (r.offset, s.1) s) (last rs (keys.Schema s.1.0 s.1.1)) false

abbrev pub HasSpots : (Record → Bool) → Records → BTreeSet Spot → Type 0
HasSpots kind rs spots = (s : Spot) → contains spot_cmp spots s ≡ is_spot kind rs s

-- where a record of that place is, if there is one
abbrev pub spot_of : Option Record → Place → Option Spot
spot_of before place = option_map (λ r. (r.offset, place)) before

-- the set without the spot, if there is one
abbrev pub Forgets : Option Spot → BTreeSet Spot → BTreeSet Spot → Type 0
Forgets spot old new = (s : Spot)
    → contains spot_cmp new s ≡ (contains spot_cmp old s && not (option_map_or (λ t. eq_by_cmp spot_cmp t s) spot false))

-- the spot, unless it is at that offset
abbrev pub elsewhere : Option Spot → ℕ → Option Spot
elsewhere None offset = None
elsewhere (Some s) offset = if s.0 == offset then None else Some s
