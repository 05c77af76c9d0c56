-- The order of records.
use Rattle.std.specs.Prelude.{ℕ, List, Option}
use Rattle.std.specs.Cmp.Lexicographic.{slice_cmp}
use Rattle.std.specs.Option.{option_cmp}
use Rattle.std.specs.Ordering.{nat_cmp, on, then_cmp}
use Rattle.std.specs.declared.cmp.Ordering.{Ordering}
use Rattle.reg_records.specs.contracts.key.KeyOrd.TheImpl as keys
use Rattle.reg_records.specs.declared.key.Key.{Key}
use Rattle.reg_records.specs.declared.record.Record.{Record}
use Rattle.reg_records.specs.Written.{written_key}

-- no value stands before a text, and texts are ordered by their bytes
unfoldable pub value_cmp : Option (List ℕ) → Option (List ℕ) → Ordering
value_cmp = option_cmp (slice_cmp nat_cmp)

-- keys are ordered by kind, then by subject, by its bytes, and then by version, as the type's own order has them
abbrev pub key_cmp : Key → Key → Ordering
key_cmp = (keys.ghosts).cmp

-- records of one key: by offset, then by value
unfoldable pub age_cmp : Record → Record → Ordering
age_cmp = then_cmp (on (λ r. r.offset) nat_cmp) (on (λ r. r.value) value_cmp)

-- keys as they are listed: by their written texts, by bytes. Keys of one text are one key; the order of the type stands behind, so
-- that only equal keys tie also where a version is no number of 32 bits, and its text says nothing of it.
unfoldable pub listed_cmp : Key → Key → Ordering
listed_cmp = then_cmp (on written_key (slice_cmp nat_cmp)) key_cmp

-- all records: by offset, then by the written text of their keys, then as records of one key are
unfoldable pub record_cmp : Record → Record → Ordering
record_cmp = then_cmp (on (λ r. r.offset) nat_cmp) (then_cmp (on (λ r. r.key) listed_cmp) (on (λ r. r.value) value_cmp))
