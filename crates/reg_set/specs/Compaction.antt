-- A part of a set that keeps the last record of each of its keys, and one that may lack deleted keys as a whole.
use Rattle.std.specs.Prelude.{◌≡◌, ◌⊎◌, ◌<◌, ◌&&◌, ◌||◌, ℕ, Bool, true, nat_lt, None, IfSome, is_none}
use Rattle.std.specs.FinSet.{contains}
use Rattle.reg_records.specs.declared.key.Key.{Key}
use Rattle.reg_records.specs.declared.record.Record.{Record}
use Rattle.reg_set.specs.LastRecords.{last}
use Rattle.reg_set.specs.Records.{Records}

pub record KeepsLasts (part whole : Records) : Type 0 where
  pub is_part : (r : Record) → contains part r ≡ true → contains whole r ≡ true
  pub has_lasts : (key : Key) → IfSome (last whole key) (λ r. contains part r ≡ true)

-- a record that deletes its key below the floor, and of whose key the part has none
pub record IsGone (floor : ℕ) (part : Records) (r : Record) : Type 0 where
  pub deletes : r.value ≡ None
  pub is_below : r.offset < floor
  pub has_no_other : last part r.key ≡ None

-- a part of a set: of each key it has the last record, or the key, deleted below the floor, is gone as a whole
pub record IsCompactionBelow (floor : ℕ) (compaction whole : Records) : Type 0 where
  pub is_part : (r : Record) → contains compaction r ≡ true → contains whole r ≡ true
  pub has_lasts : (key : Key) → IfSome (last whole key) (λ r. (contains compaction r ≡ true) ⊎ IsGone floor compaction r)

-- whether the record deletes its key, and stands below the floor
abbrev pub deletes_below : ℕ → Record → Bool
deletes_below floor r = is_none r.value && nat_lt r.offset floor

-- whether the record does, and the part has no record of its key
abbrev pub is_gone : ℕ → Records → Record → Bool
is_gone floor part r = deletes_below floor r && is_none (last part r.key)

abbrev pub is_kept_or_gone : ℕ → Records → Record → Bool
is_kept_or_gone floor part r = contains part r || is_gone floor part r
