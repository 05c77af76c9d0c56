-- Private: what sets of records keep, the records of each key, in a map by key.
use Rattle.std.specs.Prelude.{◌≡◌, true, cond, List, [], ◌∷◌}
use Rattle.std.specs.BTreeMap.{BTreeMap, IsOrdered, get, values}
use Rattle.std.specs.FinSet.{from_list}
use Rattle.std.specs.Global.{Vec}
use Rattle.std.specs.List.{flat_map, list_all}
use Rattle.std.specs.Option.{option_map_or}
use Rattle.std.specs.Ordering.{is_eq}
use Rattle.reg_records.specs.declared.key.Key.{Key}
use Rattle.reg_records.specs.declared.record.Record.{Record}
use Rattle.reg_set.specs.LastRecords.{is_of}
use Rattle.reg_set.specs.RecordOrder.{key_cmp}
use Rattle.reg_set.specs.Records.{Records, is_in_order, placed}

abbrev pub RecordLists : Type 0
RecordLists = BTreeMap Key (Vec Record)

-- the records that a map has at a key
abbrev pub records_at : RecordLists → Key → List Record
records_at m key = option_map_or (λ v. v.items) (get key_cmp m key) []

-- all records of a map, key by key
abbrev pub all_records : RecordLists → List Record
all_records m = flat_map (λ v. v.items) (values m)

-- a map as the set of its records
abbrev pub set_of : RecordLists → Records
set_of m = from_list (all_records m)

-- records of that key, in order
pub record AreOf (key : Key) (rs : List Record) : Type 0 where
  pub in_order : is_in_order rs ≡ true
  pub of_key : list_all (is_of key) rs ≡ true

-- a map in order, whose records are each of its key, and in order
pub record AreByKey (m : RecordLists) : Type 0 where
  pub is_ordered : IsOrdered key_cmp m
  pub of_keys : (key : Key) → AreOf key (records_at m key)

-- each key has the same records in both
abbrev pub AreSame : RecordLists → RecordLists → Type 0
AreSame m n = (key : Key) → records_at n key ≡ records_at m key

-- n is m with the record in its place among those of its key
abbrev pub IsTakenIn : RecordLists → RecordLists → Record → Type 0
IsTakenIn m n r = (key : Key) → records_at n key ≡ cond (is_eq (key_cmp r.key key)) (placed r (records_at m r.key)) (records_at m key)

-- the last of a list, alone
abbrev pub last_alone : List Record → List Record
last_alone [] = []
last_alone (r ∷ []) = r ∷ []
last_alone (r ∷ q ∷ rs) = last_alone (q ∷ rs)

-- n has the last record of each key of m alone
abbrev pub IsLastsOf : RecordLists → RecordLists → Type 0
IsLastsOf m n = (key : Key) → records_at n key ≡ last_alone (records_at m key)
