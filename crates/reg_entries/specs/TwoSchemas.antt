-- Ids that have two schemas.
use Rattle.std.specs.Prelude.{◌≡◌, ℕ, ◌≤◌, ◌↔◌, List, Some, None}
use Rattle.std.specs.List.{Contains}
use Rattle.reg_entries.specs.Sought.{two_schemas}
use Rattle.reg_entries.specs.declared.entry.Entry.{Entry}

-- two entries of the id have different normal texts
abbrev pub HasTwoSchemas : List Entry → ℕ → Type 0
HasTwoSchemas es id = (e : Entry) × (f : Entry) × Contains es e × Contains es f × (e.id ≡ id) × (f.id ≡ id) × ¬ (e.normal ≡ f.normal)

-- no id has two exactly where any two entries of one id have one normal text
abbrev pub NoneIsOneTextEach : Type 0
NoneIsOneTextEach = (es : List Entry) → (two_schemas es ≡ None)
    ↔ ((e f : Entry) → Contains es e → Contains es f → e.id ≡ f.id → e.normal ≡ f.normal)

-- the answer is an id exactly where it has two and no smaller id has
abbrev pub SomeIsLeastOfTwo : Type 0
SomeIsLeastOfTwo = (es : List Entry) (id : ℕ) → (two_schemas es ≡ Some id) ↔ (HasTwoSchemas es id × ((i : ℕ) → HasTwoSchemas es i → id ≤ i))
