-- Private: what a follower remembers of its last pull, and why that is enough.
use Rattle.std.specs.Prelude.{◌≡◌, ◌≢◌, ◌⊎◌, ◌<◌, ◌≤◌, ℕ, max, true, false, List, ◌++◌, Some, None, length, Option}
use Rattle.std.specs.FinSet.{contains}
use Rattle.std.specs.List.{AllByRecursion, list_any}
use mathlib.Core.List.{IsPrefix}
use Rattle.reg_records.specs.declared.key.Key.{Key}
use Rattle.reg_records.specs.declared.record.Record.{Record}
use Rattle.reg_set.specs.Compaction.{IsGone}
use Rattle.reg_set.specs.LastRecords.{last, last_records}
use Rattle.reg_set.specs.Records.{Records}
use Rattle.reg_floored.specs.Compaction.{IsCompactionOf}
use Rattle.reg_floored.specs.Floored.{Floored}
use Rattle.reg_topic.specs.Topic.{whole_log}
use Rattle.reg_topic.specs.declared.published.Item.{Item}
use Rattle.reg_shared.specs.Held.{Held, IsSince, held_of, topic_at}
use Rattle.reg_node.specs.Takes.{AreDrawnFrom, IsBasis, draws_of, floor_of, taken, taken_set}
use Rattle.reg_node.specs.declared.take.Draw.{Draw}

-- the draws are from fronts of that one. All that was taken is below an offset that the topic has reached, and so is the
-- floor; each last record below it was taken, or deletes its key below the floor, and none of its key was
pub record IsCaught (first : Held) (front : List Item) (ds : List Draw) (upto : ℕ) : Type 0 where
  pub drawn : AreDrawnFrom first ds front
  pub reached : upto ≤ (topic_at first front).next
  pub low : floor_of ds ≤ upto
  pub not_ahead : floor_of ds ≤ (topic_at first front).kept.floor
  pub below : (r : Record) → contains (taken ds) r ≡ true → r.offset < upto
  pub lasts : (key : Key) (r : Record) → last (topic_at first front).log key ≡ Some r → r.offset < upto
      → (contains (taken ds) r ≡ true) ⊎ IsGone (floor_of ds) (taken ds) r

-- what is drawn then: records for a rebase, where the floors differ, and those that
-- are kept from both offset and floor on, below the next offset
pub record IsNews (held : Held) (floor upto : ℕ) (below : Option (List Record)) (records : List Record) : Type 0 where
  pub basis : IsBasis held.kept floor below
  pub since : IsSince held.kept.records (max upto held.kept.floor) records
  pub ends : AllByRecursion (λ r. r.offset < held.next) records

-- the registry over all that is kept: with it a node may go on that took nothing, or that is rebased
abbrev pub IsWhole : Floored → ℕ → ℕ → Option Records → Type 0
IsWhole kept floor upto None = Unit {0}
IsWhole kept floor upto (Some registry) = ((upto ≡ 0) ⊎ (floor ≢ kept.floor)) × (registry ≡ last_records kept.records)

-- what holds after a pull: so it is up to the next offset, and all that was taken is a compaction of the log
pub record IsCaughtUp (first : Held) (front : List Item) (ds : List Draw) : Type 0 where
  pub caught : IsCaught first front ds (topic_at first front).next
  pub compaction : IsCompactionOf (taken_set ds) (whole_log (topic_at first front))

-- it stays so while the topic's list goes on
abbrev pub CaughtStays : Type 0
CaughtStays = (first : Held) (f g : List Item) (ds : List Draw) (upto : ℕ)
    → IsPrefix f g
    → IsCaught first f ds upto
    → IsCaught first g ds upto

-- where the floor began no higher than the next offset, the draws of what is new are enough, and none of it was there before
abbrev pub NewsCatchUp : Type 0
NewsCatchUp = (first : Held) (front : List Item) (ds : List Draw) (upto : ℕ) (below : Option (List Record)) (records : List Record)
    → first.kept.floor ≤ first.next
    → IsCaught first front ds upto → IsNews (held_of (topic_at first front)) (floor_of ds) upto below records
    → IsCaughtUp first front (ds ++ draws_of (length front) (topic_at first front).kept.floor below records)
    × (list_any (contains (taken ds)) records ≡ false)

-- where nothing was taken, and at a rebase, the last records that a node then has are those of all that is kept
abbrev pub NewsAreWhole : Type 0
NewsAreWhole = (first : Held) (front : List Item) (ds : List Draw) (upto : ℕ) (below : Option (List Record)) (records : List Record)
    → first.kept.floor ≤ first.next
    → IsCaught first front ds upto → IsNews (held_of (topic_at first front)) (floor_of ds) upto below records
    → (upto ≡ 0) ⊎ (floor_of ds ≢ (topic_at first front).kept.floor)
    → last_records (taken (ds ++ draws_of (length front) (topic_at first front).kept.floor below records))
    ≡ last_records (topic_at first front).kept.records
