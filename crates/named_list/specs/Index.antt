-- Private: the places of names, in the order of the names' hashes.
use Rattle.std.specs.Prelude.{◌≡◌, ℕ, ◌<◌, ◌||◌, ◌==◌, Bool, not, List, [], length, map, slice_index_or, bytes_eq}
use Rattle.std.specs.Borrow.{Bor}
use Rattle.std.specs.Cmp.Lexicographic.{slice_cmp}
use Rattle.std.specs.List.{All}
use Rattle.std.specs.List.Sorted.{IsPermutation, IsStrictlySortedBy}
use Rattle.std.specs.Ordering.{nat_cmp, on, then_cmp}
use Rattle.std.specs.declared.cmp.Ordering.{Ordering}
use Rattle.named_list.specs.Slots.{hash_from}

-- names by their hashes, and by their bytes where those are equal
abbrev pub hash_cmp : List ℕ → List ℕ → Ordering
hash_cmp = then_cmp (on (hash_from 0) nat_cmp) (slice_cmp nat_cmp)

-- a hash, and a place
abbrev pub Place : Type 0
Place = ℕ × ℕ

-- the names at those places
abbrev pub names_at : List (List ℕ) → List Place → List (List ℕ)
names_at names places = map (λ (p : Place). slice_index_or names p.1 []) places

-- the places give each name once, in the order of the hashes
pub record IsIndex (names : List (List ℕ)) (places : List Place) : Type 0 where
  pub within : All (λ (p : Place). p.1 < length names) places
  pub hashed : All (λ (p : Place). p.0 ≡ hash_from 0 (slice_index_or names p.1 [])) places
  pub in_order : IsStrictlySortedBy hash_cmp (names_at names places)
  pub whole : IsPermutation names (names_at names places)

-- ---- how an index is made

-- a name's hash, the name, and where it is
abbrev pub Entry : Type 0
Entry = ℕ × Bor (List ℕ) × ℕ

abbrev pub names_of : List Entry → List (List ℕ)
names_of entries = map (λ (e : Entry). e.1.now) entries

abbrev pub place_of : Entry → Place
place_of e = (e.0, e.2)

abbrev pub IsPlaced : List (List ℕ) → Entry → Type 0
IsPlaced names e = (e.2 < length names) × (slice_index_or names e.2 [] ≡ e.1.now)

abbrev pub IsHashed : Entry → Type 0
IsHashed e = e.0 ≡ hash_from 0 e.1.now

-- the names of two entries differ
abbrev pub are_apart : Entry → Entry → Bool
are_apart x y = not (x.0 == y.0) || not (bytes_eq x.1.now y.1.now)

-- the places of the entries in the order of their names' hashes, no two of which are the same
pub record IsOrderOf (entries : List Entry) (places : List Place) : Type 0 where
  pub sorted : List Entry
  pub moved : IsPermutation entries sorted
  pub are_places : places ≡ map place_of sorted
  pub in_order : IsStrictlySortedBy hash_cmp (names_of sorted)
