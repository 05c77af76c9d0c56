-- How many deletes a compaction may forget, and to which floor a pen compacts by itself.
use Rattle.std.specs.Prelude.{ℕ, ◌+◌, ◌-◌, ◌/◌, ◌^◌, ◌++◌, Bool, ◌&&◌, List, length, min, fold, count_by, nat_lt, is_none, if◌then◌else◌}
use Rattle.reg_records.specs.declared.record.Record.{Record}
use Rattle.reg_set.specs.Records.{records_of}
use Rattle.reg_topic.specs.Topic.{after_items}
use Rattle.reg_topic.specs.declared.published.Item.{Item}
use Rattle.reg_topic.specs.declared.published.Item.TheVariants as items
use Rattle.reg_topic.specs.declared.topic.Topic.{Topic}
use Rattle.reg_pen.specs.Pen.{PenState}
use Rattle.reg_pen.specs.declared.deletes.Deletes.{Deletes}
use Rattle.reg_pen.specs.declared.deletes.TheConstants.{MANY, PART}

abbrev pub is_delete : Record → Bool
is_delete r = is_none r.value

-- how many of the records have no value
abbrev pub deletes_in : List Record → ℕ
deletes_in records = count_by is_delete records

-- the sum, up to the greatest count
abbrev pub plus : ℕ → ℕ → ℕ
plus m n = min (m + n) (2 ^ 64 - 1)

-- of what a topic begins with, of which nothing is due before the first compaction
abbrev pub deletes_at_first : Topic → Deletes
deletes_at_first base = record {
  floor = base.kept.floor;
  due = 0;
  new = deletes_in (records_of base.kept.records);
  kept = length (records_of base.kept.records);
}

-- a batch brings deletes; a compaction makes those due that were there before it, without those that were due before the floor rose
abbrev pub deletes_after : Deletes → Item → Deletes
deletes_after d (items.Commit commit) = record d { new = plus d.new (deletes_in commit.batch); kept = plus d.kept (length commit.batch) }
deletes_after d (items.Compaction c) = record {
  floor = c.floor;
  due = plus (if nat_lt d.floor c.floor then 0 else d.due) d.new;
  new = 0;
  kept = d.kept - length c.dropped;
}

-- of a topic with a published list
abbrev pub deletes_of : Topic → List Item → Deletes
deletes_of base is = fold deletes_after (deletes_at_first base) is

-- so many are due that it pays to forget them: each node is rebased then, which costs what is kept
abbrev pub are_many : Deletes → Bool
are_many d = nat_lt MANY d.due && nat_lt (d.kept / PART) d.due

-- what the next offset was at the last compaction, where many deletes are due, else the kept floor
abbrev pub floor_due : {K : Type 0} → Topic → PenState K → ℕ
floor_due base l =
    if are_many (deletes_of base (l.published ++ l.pending)) then (after_items base l.published).compacted
    else (after_items base l.published).kept.floor
