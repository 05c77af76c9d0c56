-- Private: what is kept of the entries: a map m by place, their names by id, and the place of each subject's greatest version.
use Rattle.std.specs.Prelude.{◌≡◌, ℕ, ◌≤◌, ◌<◌, ◌^◌, Bool, false, List, Option, Some, None, IsSome, IfSome, if◌then◌else◌}
use Rattle.std.specs.declared.string.String.{String}
use Rattle.std.specs.declared.cmp.Ordering.{Ordering}
use Rattle.std.specs.BTreeMap.{BTreeMap, IsOrdered, get, get_by_text}
use Rattle.std.specs.BTreeSet.{BTreeSet, contains}
use Rattle.std.specs.Option.{option_map_or}
use Rattle.std.specs.Ordering.{nat_cmp, on, then_cmp, eq_by_cmp}
use Rattle.reg_entries.specs.EntryOrder.{Place, place_cmp, place_of}
use Rattle.reg_entries.specs.declared.entry.Entry.{Entry}

-- an id, an offset and a place
abbrev pub Name : Type 0
Name = ℕ × ℕ × Place

abbrev pub name_of : Entry → Name
name_of e = (e.id, e.offset, place_of e)

-- by id, then by offset, then by place
abbrev pub name_cmp : Name → Name → Ordering
name_cmp = then_cmp (then_cmp (on (λ n. n.0) nat_cmp) (on (λ n. n.1) nat_cmp)) (on (λ n. n.2) place_cmp)

abbrev pub entry_at : BTreeMap Place Entry → Place → Option Entry
entry_at m p = get place_cmp m p

-- the entry's own place is p
abbrev pub IsAt : Place → Entry → Type 0
IsAt p e = (place_of e ≡ p) × (p.1 < 2 ^ 32)

-- whether n is the name of the entry at its place
abbrev pub is_named : BTreeMap Place Entry → Name → Bool
is_named m n = option_map_or (λ e. eq_by_cmp name_cmp (name_of e) n) (entry_at m n.2) false

abbrev pub ArePlaced : BTreeMap Place Entry → Type 0
ArePlaced m = (p : Place) → IfSome (entry_at m p) (IsAt p)

-- the names are those of the entries
abbrev pub AreNamed : BTreeMap Place Entry → BTreeSet Name → Type 0
AreNamed m names = (n : Name) → contains name_cmp names n ≡ is_named m n

-- n has o at p, and at each other place what m has
abbrev pub HasAt : BTreeMap Place Entry → BTreeMap Place Entry → Place → Option Entry → Type 0
HasAt m n p o = (q : Place) → entry_at n q ≡ (if eq_by_cmp place_cmp p q then o else entry_at m q)

-- the greatest version of the subject is at o, and None where it has no entry
abbrev pub IsTop : BTreeMap Place Entry → List ℕ → Option Place → Type 0
IsTop m subject None = (w : ℕ) → entry_at m (subject, w) ≡ None
IsTop m subject (Some p) = (p.0 ≡ subject) × IsSome (entry_at m p) × ((w : ℕ) → IsSome (entry_at m (subject, w)) → w ≤ p.1)

-- of the versions of p's subject up to p's the greatest, and None where there is none
abbrev pub IsGreatestUpTo : BTreeMap Place Entry → Place → Option ℕ → Type 0
IsGreatestUpTo m p None = (w : ℕ) → w ≤ p.1 → entry_at m (p.0, w) ≡ None
IsGreatestUpTo m p (Some v) = IsSome (entry_at m (p.0, v)) × ((w : ℕ) → w ≤ p.1 → IsSome (entry_at m (p.0, w)) → w ≤ v)

pub record IsIndexed {Y : Type 0} (m : BTreeMap Place Entry) (names : BTreeSet Name) (tops : BTreeMap (String Y) Place) : Type 0 where
  pub ordered : IsOrdered place_cmp m
  pub placed : ArePlaced m
  pub named : AreNamed m names
  pub top : (subject : List ℕ) → IsTop m subject (get_by_text tops subject)
