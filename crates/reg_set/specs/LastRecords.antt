-- The last record of each key.
use Rattle.std.specs.Prelude.{◌≡◌, ◌⊎◌, Bool, true, false, not, Option, Some, None}
use Rattle.std.specs.FinSet.{contains, insert, retain}
use Rattle.std.specs.List.{filter, reduce}
use Rattle.std.specs.Option.{option_map_or}
use Rattle.std.specs.Ordering.{eq_by_cmp, is_le, ord_max}
use Rattle.reg_records.specs.declared.key.Key.{Key}
use Rattle.reg_records.specs.declared.record.Record.{Record}
use Rattle.reg_set.specs.RecordOrder.{age_cmp, key_cmp, record_cmp}
use Rattle.reg_set.specs.Records.{Records, records_of}

-- whether the record is one of that key
unfoldable pub is_of : Key → Record → Bool
is_of key r = eq_by_cmp key_cmp key r.key

-- the last record of a key: the greatest of its records in the set
unfoldable pub last : Records → Key → Option Record
last s key = reduce (ord_max age_cmp) (filter (is_of key) (records_of s))

-- whether the record is the last of its key
unfoldable pub is_last : Records → Record → Bool
is_last s r = option_map_or (eq_by_cmp record_cmp r) (last s r.key) false

-- the records that are the last of their keys
unfoldable pub last_records : Records → Records
last_records s = retain s (is_last s)

-- the set with that as its only record of the key, or with no record of it
unfoldable pub with_last : Records → Key → Option Record → Records
with_last s key last = let others = retain s (λ r. not (is_of key r)) in option_map_or (insert others) last others

-- the record is one of that key in the set, and each of that key in the set is at most that one
pub record IsGreatestOf (s : Records) (key : Key) (r : Record) : Type 0 where
  pub is_in_set : contains s r ≡ true
  pub is_of_key : r.key ≡ key
  pub is_greatest : (q : Record) → contains s q ≡ true → q.key ≡ key → is_le (age_cmp q r) ≡ true

-- each key has the last record that it had, or that was r, and it has none now
abbrev pub LosesAtMost : Record → Records → Records → Type 0
LosesAtMost r before after = (key : Key) → (last after key ≡ last before key) ⊎ ((last before key ≡ Some r) × (last after key ≡ None))
