-- The ids that records name, and the mark of ids that they lack.
use Rattle.std.specs.Prelude.{◌≡◌, ◌≤◌, ◌⊎◌, ℕ, max, List, All, Bool, true, false, fold, Some, Option, codes, option_and_then, unwrap_or, if◌then◌else◌}
use Rattle.std.specs.List.{Contains, list_any}
use Rattle.std.specs.Option.{option_map_or}
use Rattle.serde_json.specs.Read.{read}
use Rattle.reg_records.specs.Json.{number_at}
use Rattle.reg_records.specs.WrittenValue.{written_value}
use Rattle.reg_records.specs.declared.key.Key.{Key}
use Rattle.reg_records.specs.declared.key.Key.TheVariants as keys
use Rattle.reg_records.specs.declared.limits.TheConstants.{NUMBER_LIMIT}
use Rattle.reg_records.specs.declared.record.Record.{Record}
use Rattle.reg_records.specs.declared.value.Value.TheVariants as values

-- whether a key is that of marks of ids
abbrev pub is_mark_key : Key → Bool
is_mark_key (keys.Schema subject version) = false
is_mark_key (keys.Config scope) = false
is_mark_key (keys.Mode scope) = false
is_mark_key (keys.DeleteSubject subject) = false
is_mark_key keys.Noop = false
is_mark_key keys.IdMark = true

-- whether the values of a key have ids: those of versions and of marks
abbrev pub has_id : Key → Bool
has_id (keys.Schema subject version) = true
has_id (keys.Config scope) = false
has_id (keys.Mode scope) = false
has_id (keys.DeleteSubject subject) = false
has_id keys.Noop = false
has_id keys.IdMark = true

-- the id in a text, a JSON object, whatever else that has; 0 where there is none
abbrev pub id_in : List ℕ → ℕ
id_in text = unwrap_or (option_and_then (number_at (codes "id")) (read text)) 0

-- the id that a record names, whether its value can be read as a whole or not; 0 where it names none
abbrev pub named_id : Record → ℕ
named_id r = if has_id r.key then option_map_or id_in r.value 0 else 0

-- the greatest id that one of the records names; 0 where none does
abbrev pub greatest_named : List Record → ℕ
greatest_named rs = fold (λ greatest r. max greatest (named_id r)) 0 rs

-- whether one of the records is of the key of marks
abbrev pub has_mark : List Record → Bool
has_mark rs = list_any (λ r. is_mark_key r.key) rs

-- the greatest id that records without a mark name, which that mark is due for; 0 where none is due
abbrev pub unmarked_id : List Record → ℕ
unmarked_id rs = if has_mark rs then 0 else greatest_named rs

-- the record that marks an id, at that offset
abbrev pub mark_at : ℕ → ℕ → Record
mark_at offset id = record { offset = offset; key = keys.IdMark; value = written_value (values.IdMark id) }

-- the greatest one is at least each id that is named, and it is named, unless none is
pub record IsGreatestNamed (rs : List Record) (id : ℕ) : Type 0 where
  pub covers : All (λ r. named_id r ≤ id) rs
  pub named : (id ≡ 0) ⊎ ((r : Record) × Contains rs r × (named_id r ≡ id))
  pub within : id ≤ NUMBER_LIMIT

abbrev pub GreatestNamedIsGreatest : Type 0
GreatestNamedIsGreatest = (rs : List Record) → IsGreatestNamed rs (greatest_named rs)
