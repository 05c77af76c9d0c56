-- What published items come to, and which lists of items are lawful.
use Rattle.std.specs.Prelude.{◌≡◌, ◌≢◌, ℕ, suc, ◌+◌, ◌<◌, ◌≤◌, List, [], ◌∷◌, Bool, true, false, ◌&&◌, nat_le, length, fold}
use Rattle.std.specs.FinSet.{contains, from_list, union}
use Rattle.std.specs.List.{flat_map}
use Rattle.reg_leader.specs.reg_records.declared.limits.TheConstants.{OFFSET_LIMIT}
use Rattle.reg_leader.specs.reg_records.declared.record.Record.{Record}
use Rattle.reg_leader.specs.reg_set.LastRecords.{last_records}
use Rattle.reg_leader.specs.reg_set.Records.{Records}
use Rattle.reg_floored.specs.Floored.{Floored}
use Rattle.reg_floored.specs.Floors.{may_leave, without}
use Rattle.reg_leader.specs.reg_fold.Closed.{is_closed}
use Rattle.reg_leader.specs.Adoption.{adopting}
use Rattle.reg_leader.specs.OneStep.{goes_on}
use Rattle.reg_leader.specs.Step.{IsStep}
use Rattle.reg_leader.specs.declared.reply.Reply.{Reply}
use Rattle.reg_topic.specs.declared.published.Commit.{Commit}
use Rattle.reg_topic.specs.declared.published.Compaction.{Compaction}
use Rattle.reg_topic.specs.declared.published.Item.{Item}
use Rattle.reg_topic.specs.declared.published.Item.TheVariants as items
use Rattle.reg_topic.specs.declared.topic.Topic.{Topic}

-- the log as a set with a floor: nothing of it was forgotten
abbrev pub whole_log : Topic → Floored
whole_log t = record { records = t.log; floor = 0 }

-- the registry over all that was published
abbrev pub registry_of : Topic → Records
registry_of t = last_records t.log

-- whether the batch goes on at that offset, with none past the limit
abbrev pub follows : ℕ → List Record → Bool
follows n batch = goes_on n batch && nat_le (n + length batch) (suc OFFSET_LIMIT)

-- the batch joins the log and the kept set; one that doesn't go on at the next offset changes nothing
abbrev pub after_batch : Bool → Topic → List Record → Topic
after_batch true t batch = record t {
  log = union t.log (from_list batch);
  kept = record t.kept { records = union t.kept.records (from_list batch) };
  next = t.next + length batch;
}
after_batch false t batch = t

-- whether the kept set may have that floor without those records: it doesn't fall,
-- isn't ahead of the next offset, and what stays is a compaction
abbrev pub may_compact : Topic → Compaction → Bool
may_compact t c = nat_le t.kept.floor c.floor && nat_le c.floor t.next && may_leave c.floor t.kept.records c.dropped

-- what stays
abbrev pub left_by : Topic → Compaction → Floored
left_by t c = record { records = without t.kept.records c.dropped; floor = c.floor }

-- one that may not be changes nothing
abbrev pub after_compaction : Bool → Topic → Compaction → Topic
after_compaction true t c = record t { kept = left_by t c; compacted = t.next }
after_compaction false t c = t

-- what a topic is after an item, lawful or not
abbrev pub after_item : Topic → Item → Topic
after_item t (items.Commit commit) = after_batch (follows t.next commit.batch) t commit.batch
after_item t (items.Compaction c) = after_compaction (may_compact t c) t c

-- after a list of items
abbrev pub after_items : Topic → List Item → Topic
after_items t is = fold after_item t is

-- the topic of a base's records alone: they are log and, with its floor, kept set
abbrev pub plain_topic : List Record → ℕ → ℕ → Topic
plain_topic base next floor =
    record { log = from_list base; kept = record { records = from_list base; floor = floor }; next = next; compacted = floor }

-- what a topic over a base begins with beside it: the mark of ids that the base owes, or no record
abbrev pub owed_by : List Record → ℕ → List Record
owed_by base next = adopting (last_records (from_list base)) next

-- the topic that a base begins: with what it owes, which is a part of the topic and no item
unfoldable pub topic_from : List Record → ℕ → ℕ → Topic
topic_from base next floor = after_batch (follows next (owed_by base next)) (plain_topic base next floor) (owed_by base next)

-- a base that is adopted: not closed, with all offsets below the next one, and the floor not above it
pub record IsAdopted (base : Topic) : Type 0 where
  pub not_closed : is_closed (registry_of base) ≡ false
  pub ahead : (r : Record) → contains base.log r ≡ true → r.offset < base.next
  pub floor_below : base.kept.floor ≤ base.next
  pub whole : base.kept.records ≡ base.log

-- the commit is what its command writes, from exactly this log, and isn't empty
pub record MayCommit (t : Topic) (commit : Commit) : Type 0 where
  pub reply : Reply
  pub step : IsStep (registry_of t) t.next commit.command reply commit.batch
  pub writes : commit.batch ≢ []

abbrev pub MayFollow : Topic → Item → Type 0
MayFollow t (items.Commit commit) = MayCommit t commit
MayFollow t (items.Compaction c) = may_compact t c ≡ true

-- each item may follow on those before it
abbrev pub IsLawful : Topic → List Item → Type 0
IsLawful t [] = Unit {0}
IsLawful t (i ∷ is) = MayFollow t i × IsLawful (after_item t i) is

-- the records that an item published
abbrev pub records_of_item : Item → List Record
records_of_item (items.Commit commit) = commit.batch
records_of_item (items.Compaction c) = []

-- the records that the items published, in their order
abbrev pub published_by : List Item → List Record
published_by is = flat_map records_of_item is
