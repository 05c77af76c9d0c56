-- Private: which normal texts the entries of an id have.
use Rattle.std.specs.Prelude.{◌≡◌, ◌↔◌, ◌⊎◌, ℕ, true, List, Option, Some}
use Rattle.std.specs.declared.cmp.Ordering.{Ordering}
use Rattle.std.specs.BTreeSet.{BTreeSet, contains}
use Rattle.std.specs.Cmp.Lexicographic.{slice_cmp}
use Rattle.std.specs.Ordering.{nat_cmp, on, then_cmp}
use Rattle.reg_entries.specs.EntryOrder.{Place}
use Rattle.reg_entries.specs.Schemas.{Schema, schema_cmp}

-- an id and a normal text
abbrev pub Meaning : Type 0
Meaning = ℕ × List ℕ

abbrev pub meaning_of : Schema → Meaning
meaning_of s = (s.1, s.0)

-- by id, then by normal text, by its bytes
abbrev pub meaning_cmp : Meaning → Meaning → Ordering
meaning_cmp = then_cmp (on (λ k. k.0) nat_cmp) (on (λ k. k.1) (slice_cmp nat_cmp))

-- some schema has the id and the text
abbrev pub IsMeant : BTreeSet Schema → Meaning → Type 0
IsMeant schemas k = (p : Place) × (contains schema_cmp schemas (k.1, k.0, p) ≡ true)

-- the meanings are those of the schemas
abbrev pub AreMeant : BTreeSet Schema → BTreeSet Meaning → Type 0
AreMeant schemas meanings = (k : Meaning) → (contains meaning_cmp meanings k ≡ true) ↔ IsMeant schemas k

-- the id has two texts
abbrev pub HasTwo : BTreeSet Meaning → ℕ → Type 0
HasTwo meanings id = (t : List ℕ) × (u : List ℕ) × (contains meaning_cmp meanings (id, t) ≡ true)
    × (contains meaning_cmp meanings (id, u) ≡ true) × ¬ (t ≡ u)

-- the doubled ids are those that have two texts
abbrev pub AreDoubled : BTreeSet Meaning → BTreeSet ℕ → Type 0
AreDoubled meanings doubled = (id : ℕ) → (contains nat_cmp doubled id ≡ true) ↔ HasTwo meanings id

-- n is doubled, without the id where it has no two texts
abbrev pub RefreshesDoubled : BTreeSet Meaning → ℕ → BTreeSet ℕ → BTreeSet ℕ → Type 0
RefreshesDoubled meanings id doubled n = (i : ℕ) → (contains nat_cmp n i ≡ true)
    ↔ ((contains nat_cmp doubled i ≡ true) × (i ≡ id → HasTwo meanings i))

-- n is meanings, without k where no schema has it
abbrev pub RefreshesMeaning : BTreeSet Schema → Meaning → BTreeSet Meaning → BTreeSet Meaning → Type 0
RefreshesMeaning schemas k meanings n = (l : Meaning) → (contains meaning_cmp n l ≡ true)
    ↔ ((contains meaning_cmp meanings l ≡ true) × (l ≡ k → IsMeant schemas l))

-- k is the meaning of one schema, or of the other, if there is one
abbrev pub IsMeaningOf : Schema → Option Schema → Meaning → Type 0
IsMeaningOf one other k = (k ≡ meaning_of one) ⊎ ((s : Schema) × (other ≡ Some s) × (k ≡ meaning_of s))
