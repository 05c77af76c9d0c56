-- What merging, compacting and rebasing sets with floors keep.
use Rattle.std.specs.Prelude.{◌≡◌, ◌⊎◌, ◌↔◌, ◌≤◌, ◌&&◌, ℕ, min, not, List, true, None, IfSome}
use Rattle.std.specs.FinSet.{contains, from_list, union}
use Rattle.std.specs.List.{AllByRecursion}
use Rattle.reg_records.specs.declared.key.Key.{Key}
use Rattle.reg_records.specs.declared.record.Record.{Record}
use Rattle.reg_set.specs.LastRecords.{last, last_records}
use Rattle.reg_set.specs.RecordOrder.{record_cmp}
use Rattle.reg_set.specs.Records.{Records}
use Rattle.reg_floored.specs.Compaction.{IsCompactionOf, KeepsLasts, standing}
use Rattle.reg_floored.specs.Floored.{Floored}
use Rattle.reg_floored.specs.Floors.{below, compacted_to, may_leave, merged, rebased, without}
pub use Rattle.reg_set.specs.Join.{KeepingLastsUnites}

abbrev pub MergingIsCommutative : Type 0
MergingIsCommutative = (R S : Floored) → R.floor ≡ S.floor → merged R S ≡ merged S R

abbrev pub MergingIsAssociative : Type 0
MergingIsAssociative = (R S T : Floored) → merged (merged R S) T ≡ merged R (merged S T)

abbrev pub MergingIsIdempotent : Type 0
MergingIsIdempotent = (R : Floored) → merged R R ≡ R

abbrev pub EachIsItsOwnCompaction : Type 0
EachIsItsOwnCompaction = (R : Floored) → IsCompactionOf R R

-- a compaction of a compaction is one of the whole
abbrev pub CompactionsCompose : Type 0
CompactionsCompose = (B C R : Floored) → IsCompactionOf B C → IsCompactionOf C R → IsCompactionOf B R

abbrev pub LastRecordsAreCompaction : Type 0
LastRecordsAreCompaction = (R : Floored) → IsCompactionOf (record R { records = last_records R.records }) R

abbrev pub CompactedToFloorIsCompaction : Type 0
CompactedToFloorIsCompaction = (R : Floored) (floor : ℕ) → R.floor ≤ floor
    → IsCompactionOf (record { records = compacted_to floor R.records; floor = floor }) R

-- the last record of a key is that of the whole, or there is none and that of the whole deletes the key
abbrev pub LastOfCompaction : Type 0
LastOfCompaction = (C R : Floored) → IsCompactionOf C R → (key : Key) → (last C.records key ≡ last R.records key)
    ⊎ ((last C.records key ≡ None) × IfSome (last R.records key) (λ r. r.value ≡ None))

-- the last records that have a value are those of the whole
abbrev pub StandingOfCompaction : Type 0
StandingOfCompaction = (C R : Floored) → IsCompactionOf C R → standing C.records ≡ standing R.records

-- compactions at one floor may be merged where they have the same records below it
abbrev pub CompactionsUnite : Type 0
CompactionsUnite = (C R D S : Floored) → C.floor ≡ D.floor → below C.floor C.records ≡ below C.floor D.records
    → IsCompactionOf C R → IsCompactionOf D S
    → IsCompactionOf (merged C D) (record { records = union R.records S.records; floor = min R.floor S.floor })

-- records from the floor on may be added to a compaction in place of the whole
abbrev pub LaterRecordsMayJoin : Type 0
LaterRecordsMayJoin = (C R : Floored) (more : Records) → ((r : Record) → contains more r ≡ true → C.floor ≤ r.offset)
    → IsCompactionOf C R
    → IsCompactionOf (record C { records = union C.records more }) (record R { records = union R.records more })

-- what is left without some records is a compaction exactly where they may leave
abbrev pub DropsLeaveCompactions : Type 0
DropsLeaveCompactions = (R : Floored) (floor : ℕ) (dropped : List Record) → R.floor ≤ floor
    → (may_leave floor R.records dropped ≡ true)
    ↔ (AllByRecursion (λ r. contains R.records r ≡ true) dropped
    × IsCompactionOf (record { records = without R.records dropped; floor = floor }) R)

-- the records that compacting to a floor drops may leave, and what it keeps is left
abbrev pub CompactingDropsWhatMayLeave : Type 0
CompactingDropsWhatMayLeave = (floor : ℕ) (kept : Records) (dropped : List Record)
    → ((r : Record) → contains (from_list {R = record_cmp} dropped) r ≡ (contains kept r && not (contains (compacted_to floor kept) r)))
    → (may_leave floor kept dropped ≡ true) × (without kept dropped ≡ compacted_to floor kept)

-- sets that keep each last record may be rebased, where the wholes are rebased likewise
abbrev pub RebasingKeepsLasts : Type 0
RebasingKeepsLasts = (C R : Records) (other : Floored) → KeepsLasts C R → KeepsLasts (rebased C other) (rebased R other)

-- the last records of a rebased set are those of its last records, rebased likewise
abbrev pub LastRecordsOfRebased : Type 0
LastRecordsOfRebased = (own : Records) (other : Floored)
    → last_records (rebased (last_records own) other) ≡ last_records (rebased own other)
