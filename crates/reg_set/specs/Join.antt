-- What merging and compacting keep: the laws that every order of arrival rests on.
use Rattle.std.specs.Prelude.{◌≡◌, ◌↔◌, true, false, Option, Some, None}
use Rattle.std.specs.FinSet.{contains, difference, union, insert}
use Rattle.std.specs.Option.{option_cmp}
use Rattle.std.specs.Ordering.{ord_max}
use Rattle.reg_records.specs.declared.key.Key.{Key}
use Rattle.reg_records.specs.declared.record.Record.{Record}
use Rattle.reg_set.specs.Compaction.{KeepsLasts}
use Rattle.reg_set.specs.LastRecords.{is_last, last, last_records, IsGreatestOf}
use Rattle.reg_set.specs.RecordOrder.{age_cmp}
use Rattle.reg_set.specs.Records.{Records}

abbrev pub MergingIsCommutative : Type 0
MergingIsCommutative = (R S : Records) → union R S ≡ union S R

abbrev pub MergingIsAssociative : Type 0
MergingIsAssociative = (R S T : Records) → union (union R S) T ≡ union R (union S T)

abbrev pub MergingIsIdempotent : Type 0
MergingIsIdempotent = (R : Records) → union R R ≡ R

-- the greater of two last records of one key; any record is greater than none
abbrev pub later : Option Record → Option Record → Option Record
later = ord_max (option_cmp age_cmp)

-- key by key, the last record of a union is the greater of the two lasts
abbrev pub LastOfUnion : Type 0
LastOfUnion = (R S : Records) (key : Key) → last (union R S) key ≡ later (last R key) (last S key)

-- a last record is the greatest of its key, and a key without one has no record
abbrev pub LastIsGreatest : Type 0
LastIsGreatest = (R : Records) (key : Key) (r : Record) → (last R key ≡ Some r) ↔ IsGreatestOf R key r

abbrev pub NoLastIsNoRecord : Type 0
NoLastIsNoRecord = (R : Records) (r : Record) → contains R r ≡ true → ¬ (last R r.key ≡ None)

-- the last records are the last ones of their keys
abbrev pub LastOfLastRecords : Type 0
LastOfLastRecords = (R : Records) (key : Key) → last (last_records R) key ≡ last R key

-- the lasts of a part that keeps them are those of the whole
abbrev pub LastOfPart : Type 0
LastOfPart = (C R : Records) → KeepsLasts C R → (key : Key) → last C key ≡ last R key

abbrev pub KeepingLastsUnites : Type 0
KeepingLastsUnites = (C R D S : Records) → KeepsLasts C R → KeepsLasts D S → KeepsLasts (union C D) (union R S)

abbrev pub EachKeepsItsLasts : Type 0
EachKeepsItsLasts = (R : Records) → KeepsLasts R R

-- what keeps the lasts of a part that keeps those of the whole keeps these
abbrev pub KeepingLastsComposes : Type 0
KeepingLastsComposes = (B C R : Records) → KeepsLasts B C → KeepsLasts C R → KeepsLasts B R

-- what is left without some records keeps the lasts exactly where none of them is a last one
abbrev pub DropsKeepLasts : Type 0
DropsKeepLasts = (R D : Records) → KeepsLasts (difference R D) R ↔ ((r : Record) → contains D r ≡ true → is_last R r ≡ false)

-- the last records are the least part that keeps them, and those of each such part
abbrev pub LastRecordsKeepLasts : Type 0
LastRecordsKeepLasts = (R : Records) → KeepsLasts (last_records R) R

abbrev pub LastRecordsOfPart : Type 0
LastRecordsOfPart = (C R : Records) → KeepsLasts C R → last_records C ≡ last_records R

-- what comes after may be added to the last records alone
abbrev pub LastRecordsOfInsert : Type 0
LastRecordsOfInsert = (R : Records) (r : Record) → last_records (insert (last_records R) r) ≡ last_records (insert R r)

abbrev pub LastRecordsOfUnion : Type 0
LastRecordsOfUnion = (R S : Records) → last_records (union (last_records R) S) ≡ last_records (union R S)
