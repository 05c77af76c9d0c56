-- Which sets of records a topic can begin with, and what it begins with beside them.
-- Below, rs are the last records and next is the next offset.
use Rattle.std.specs.Prelude.{◌≡◌, ◌<◌, ◌≤◌, ⊤, ℕ, List, [], ◌∷◌, true, false, Some, None, codes, unwrap_or, if◌then◌else◌}
use Rattle.reg_rules.specs.reg_fold.Closed.{is_closed, two_schemas}
use Rattle.reg_rules.specs.reg_fold.IdMark.{needs_mark}
use Rattle.reg_rules.specs.reg_fold.Opaque.{opaque}
use Rattle.reg_rules.specs.reg_fold.Standing.{greatest_id}
use Rattle.reg_rules.specs.reg_records.declared.limits.TheConstants.{OFFSET_LIMIT}
use Rattle.reg_rules.specs.reg_records.declared.record.Record.{Record}
use Rattle.reg_rules.specs.Writings.{id_marked, numbered}
use Rattle.reg_rules.specs.reg_set.Records.{Records}
use Rattle.reg_leader.specs.declared.adoption.AdoptError.{AdoptError}
use Rattle.reg_leader.specs.declared.adoption.AdoptError.TheVariants.{Opaque, TwoSchemas, NumbersUsedUp, OutOfMemory}

-- what it begins with: a mark of the greatest id, where it needs one
abbrev pub adopting : Records → ℕ → List Record
adopting rs next = if needs_mark rs then numbered next (id_marked (unwrap_or (greatest_id rs) 0) ∷ []) else []

-- a mark that is due has an offset
abbrev pub HasPlace : Records → ℕ → Type 0
HasPlace rs next = needs_mark rs ≡ true → next ≤ OFFSET_LIMIT

-- the cause of a refusal, with the least offset or id that there is; memory may be refused at any time
abbrev pub IsAdoptRefusal : Records → ℕ → AdoptError → Type 0
IsAdoptRefusal rs next (Opaque offset) = opaque rs ≡ Some offset
IsAdoptRefusal rs next (TwoSchemas id) = (opaque rs ≡ None) × (two_schemas rs ≡ Some id)
IsAdoptRefusal rs next NumbersUsedUp = (is_closed rs ≡ false) × (needs_mark rs ≡ true) × (OFFSET_LIMIT < next)
IsAdoptRefusal rs next OutOfMemory = ⊤

-- the text of a refusal
abbrev pub adopt_error_text : AdoptError → List ℕ
adopt_error_text (Opaque offset) = codes "Opaque"
adopt_error_text (TwoSchemas id) = codes "TwoSchemas"
adopt_error_text NumbersUsedUp = codes "NumbersUsedUp"
adopt_error_text OutOfMemory = codes "out of memory"
