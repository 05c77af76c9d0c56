-- The orders of entries.
use Rattle.std.specs.Prelude.{ℕ, List}
use Rattle.std.specs.Cmp.Lexicographic.{slice_cmp}
use Rattle.std.specs.List.Sorted.{IsStrictlySortedBy}
use Rattle.std.specs.Ordering.{nat_cmp, on, then_cmp}
use Rattle.std.specs.declared.cmp.Ordering.{Ordering}
use Rattle.reg_entries.specs.declared.entry.Entry.{Entry}

-- a subject and a version
abbrev pub Place : Type 0
Place = List ℕ × ℕ

abbrev pub place_of : Entry → Place
place_of e = (e.subject, e.version)

-- by subject, by its bytes, then by version
abbrev pub place_cmp : Place → Place → Ordering
place_cmp = then_cmp (on (λ p. p.0) (slice_cmp nat_cmp)) (on (λ p. p.1) nat_cmp)

-- by offset, then by place
abbrev pub naming_cmp : Entry → Entry → Ordering
naming_cmp = then_cmp (on (λ e. e.offset) nat_cmp) (on place_of place_cmp)

-- each entry stands before all later ones
abbrev pub IsInOrder : List Entry → Type 0
IsInOrder = IsStrictlySortedBy (on place_of place_cmp)
