-- What is true of what is held.
use Rattle.std.specs.Prelude.{◌≡◌, ◌⊎◌, ◌≤◌, List, fold, true}
use Rattle.std.specs.FinSet.{contains}
use Rattle.reg_records.specs.declared.record.Record.{Record}
use Rattle.reg_set.specs.LastRecords.{last_records}
use Rattle.reg_fold.specs.GiveAlike.{GiveAlike}
use Rattle.reg_topic.specs.Topic.{after_items, registry_of}
use Rattle.reg_topic.specs.declared.published.Item.{Item}
use Rattle.reg_topic.specs.declared.topic.Topic.{Topic}
use Rattle.reg_shared.specs.Held.{Held, held_after, held_of, topic_at}

-- what a list folds to is what is held of the topic after it
abbrev pub FoldsAreHeld : Type 0
FoldsAreHeld = (first : Held) (is : List Item) → fold held_after first is ≡ held_of (topic_at first is)

-- the last records of the kept set give what the registry over the log does, where the floor began no higher than the next offset
abbrev pub KeptGivesRegistry : Type 0
KeptGivesRegistry = (first : Held) (is : List Item) → first.kept.floor ≤ first.next
    → GiveAlike (last_records (topic_at first is).kept.records) (registry_of (topic_at first is))

-- what items add to the log is at or above the next offset before them
abbrev pub LaterRecordsAreNews : Type 0
LaterRecordsAreNews = (t : Topic) (is : List Item) (r : Record)
    → contains (after_items t is).log r ≡ true
    → (contains t.log r ≡ true) ⊎ (t.next ≤ r.offset)

-- the next offset never falls
abbrev pub OffsetsRise : Type 0
OffsetsRise = (t : Topic) (is : List Item) → t.next ≤ (after_items t is).next
