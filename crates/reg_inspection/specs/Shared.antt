-- The ids of entries, and those that name two schemas.
use Rattle.std.specs.Prelude.{◌↔◌, ℕ, List, [], Bool, not, map, fold, bytes_eq}
use Rattle.std.specs.BTreeSet.{insert_key}
use Rattle.std.specs.List.{Contains, filter, list_any}
use Rattle.std.specs.List.Sorted.{IsStrictlyIncreasing}
use Rattle.std.specs.Ordering.{nat_cmp}
use Rattle.std.specs.declared.cmp.Ordering.{Ordering}
use Rattle.reg_fold.specs.reg_entries.Sought.{with_id}
use Rattle.reg_fold.specs.reg_entries.TwoSchemas.{HasTwoSchemas}
use Rattle.reg_fold.specs.reg_entries.declared.entry.Entry.{Entry}

-- the items in ascending order, each once
abbrev pub rising_by : {X : Type 0} → (X → X → Ordering) → List X → List X
rising_by cmp xs = fold (insert_key cmp) [] xs

-- the numbers in ascending order, each once
abbrev pub rising : List ℕ → List ℕ
rising ns = rising_by nat_cmp ns

-- the ids of the entries, in ascending order
abbrev pub ids_of : List Entry → List ℕ
ids_of es = rising (map (λ e. e.id) es)

-- whether two of the entries have different normal texts
abbrev pub are_apart : List Entry → Bool
are_apart es = list_any (λ e. list_any (λ f. not (bytes_eq e.normal f.normal)) es) es

-- the ids that name two schemas, in ascending order
abbrev pub shared_ids : List Entry → List ℕ
shared_ids es = filter (λ id. are_apart (with_id es id)) (ids_of es)

-- each of them is smaller than the next one
abbrev pub SharedIdsRise : Type 0
SharedIdsRise = (es : List Entry) → IsStrictlyIncreasing (shared_ids es)

-- an id is among them exactly where two entries of it have different normal texts
abbrev pub SharedIdsNameTwo : Type 0
SharedIdsNameTwo = (es : List Entry) (id : ℕ) → Contains (shared_ids es) id ↔ HasTwoSchemas es id
