-- Finite sets of records, as the library has finite sets; their union is its union.
use Rattle.std.specs.Prelude.{◌≡◌, Bool, true, ◌&&◌, List, [], ◌∷◌}
use Rattle.std.specs.FinSet.{FinSet, from_list, items}
use Rattle.std.specs.List.{list_all}
use Rattle.std.specs.Ordering.{is_lt, match_ordering}
use Rattle.reg_records.specs.declared.record.Record.{Record}
use Rattle.reg_set.specs.RecordOrder.{record_cmp}

abbrev pub Records : Type 0
Records = FinSet record_cmp

-- whether each record stands before all later ones
abbrev pub is_in_order : List Record → Bool
is_in_order [] = true
is_in_order (r ∷ rs) = list_all (λ q. is_lt (record_cmp r q)) rs && is_in_order rs

-- the record in its place, unless it is there
abbrev pub placed : Record → List Record → List Record
placed r [] = r ∷ []
placed r (q ∷ qs) = match_ordering (record_cmp r q) (r ∷ q ∷ qs) (q ∷ qs) (q ∷ placed r qs)

-- the records in order, each once
abbrev pub in_order : List Record → List Record
in_order [] = []
in_order (r ∷ rs) = placed r (in_order rs)

-- the records of a set, in order
unfoldable pub records_of : Records → List Record
records_of s = in_order (items s)

-- a list in order has the records of its set, in order
abbrev pub ListsInOrderAreAll : Type 0
ListsInOrderAreAll = (rs : List Record) → is_in_order rs ≡ true → records_of (from_list rs) ≡ rs
