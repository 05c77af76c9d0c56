-- Private: what last records are kept as, the last record of each key, in a map by key.
use Rattle.std.specs.Prelude.{◌≡◌, Option, IfSome}
use Rattle.std.specs.BTreeMap.{BTreeMap, IsOrdered, get}
use Rattle.reg_records.specs.declared.key.Key.{Key}
use Rattle.reg_records.specs.declared.record.Record.{Record}
use Rattle.reg_set.specs.RecordOrder.{key_cmp}

-- the record that a map has at a key
abbrev pub last_at : BTreeMap Key Record → Key → Option Record
last_at lasts key = get key_cmp lasts key

-- a map in order, whose records are each of its key
pub record IsByKey (m : BTreeMap Key Record) : Type 0 where
  pub is_ordered : IsOrdered key_cmp m
  pub of_keys : (key : Key) → IfSome (last_at m key) (λ r. r.key ≡ key)
