-- What is true of topics and of lists of items.
use Rattle.std.specs.Prelude.{◌≡◌, ◌<◌, ◌≤◌, ◌↔◌, ℕ, List, [], ◌∷◌, ◌++◌, All, true, false}
use Rattle.std.specs.FinSet.{contains, from_list, union}
use Rattle.std.specs.List.{AllByRecursion}
use Rattle.reg_leader.specs.reg_records.declared.record.Record.{Record}
use Rattle.reg_leader.specs.reg_set.LastRecords.{last_records}
use Rattle.reg_leader.specs.reg_set.Records.{Records}
use Rattle.reg_floored.specs.Compaction.{IsCompactionOf, KeepsLasts}
use Rattle.reg_leader.specs.reg_fold.Closed.{is_closed}
use Rattle.reg_topic.specs.Topic.{IsAdopted, IsLawful, MayCommit, MayFollow, after_item, after_items}
use Rattle.reg_topic.specs.Topic.{follows, left_by, may_compact, published_by, topic_from, whole_log}
use Rattle.reg_topic.specs.declared.published.Commit.{Commit}
use Rattle.reg_topic.specs.declared.published.Compaction.{Compaction}
use Rattle.reg_topic.specs.declared.published.Item.{Item}
use Rattle.reg_topic.specs.declared.topic.Topic.{Topic}

-- a compaction may be exactly where its floor doesn't fall and isn't ahead of the next offset, its records are kept, and what stays is a
-- compaction of the kept set
abbrev pub AllowedDropsLeaveCompactions : Type 0
AllowedDropsLeaveCompactions = (t : Topic) (c : Compaction) → (may_compact t c ≡ true)
    ↔ ((t.kept.floor ≤ c.floor) × (c.floor ≤ t.next) × AllByRecursion (λ r. contains t.kept.records r ≡ true) c.dropped
    × IsCompactionOf (left_by t c) t.kept)

-- where the floor isn't above the next offset, and the kept set is a compaction of the log, it stays so, after lawful items and others
abbrev pub KeptStaysCompaction : Type 0
KeptStaysCompaction = (t : Topic) (is : List Item) → t.kept.floor ≤ t.next → IsCompactionOf t.kept (whole_log t)
    → IsCompactionOf (after_items t is).kept (whole_log (after_items t is))

-- the floor stays there, and never falls
abbrev pub FloorsStayBelow : Type 0
FloorsStayBelow = (t : Topic) (is : List Item) → t.kept.floor ≤ t.next → (after_items t is).kept.floor ≤ (after_items t is).next

abbrev pub FloorsRise : Type 0
FloorsRise = (t : Topic) (is : List Item) → t.kept.floor ≤ (after_items t is).kept.floor

-- a log only grows
abbrev pub LogsGrow : Type 0
LogsGrow = (t : Topic) (i : Item) (r : Record) → contains t.log r ≡ true → contains (after_item t i).log r ≡ true

-- a log only grows over a list of items
abbrev pub LogsGrowOverLists : Type 0
LogsGrowOverLists = (t : Topic) (is : List Item) (r : Record) → contains t.log r ≡ true → contains (after_items t is).log r ≡ true

-- one item more
abbrev pub ItemsAreFoldedInTurn : Type 0
ItemsAreFoldedInTurn = (t : Topic) (is : List Item) (i : Item) → after_items t (is ++ i ∷ []) ≡ after_item (after_items t is) i

-- a lawful list goes on with what may follow on it
abbrev pub LawfulListsGoOn : Type 0
LawfulListsGoOn = (t : Topic) (is : List Item) (i : Item) → IsLawful t is → MayFollow (after_items t is) i → IsLawful t (is ++ i ∷ [])

-- each item of a lawful list may follow on those before it
abbrev pub LawfulItemsFollow : Type 0
LawfulItemsFollow = (t : Topic) (before after : List Item) (i : Item)
    → IsLawful t (before ++ i ∷ after)
    → MayFollow (after_items t before) i

-- the log is the first one with all that lawful items published
abbrev pub LogIsWhatWasPublished : Type 0
LogIsWhatWasPublished = (t : Topic) (is : List Item) → IsLawful t is → (after_items t is).log ≡ union t.log (from_list (published_by is))

-- a list, and one more list
abbrev pub ListsAreFoldedInTurn : Type 0
ListsAreFoldedInTurn = (t : Topic) (is js : List Item) → after_items t (is ++ js) ≡ after_items (after_items t is) js

-- a list is lawful exactly where its front is, and the rest is after that
abbrev pub LawfulListsJoin : Type 0
LawfulListsJoin = (t : Topic) (is js : List Item) → IsLawful t (is ++ js) ↔ (IsLawful t is × IsLawful (after_items t is) js)

-- a commit that may follow goes on at the next offset, with none past the limit, so it is published
abbrev pub CommitsFollow : Type 0
CommitsFollow = (t : Topic) (commit : Commit) → MayCommit t commit → follows t.next commit.batch ≡ true

-- records of which none is at or past the next offset, and that aren't closed, begin an adopted topic, with a floor that isn't above it:
-- the mark that they owe leaves it open
abbrev pub AdoptedLogsBegin : Type 0
AdoptedLogsBegin = (rs : List Record) (next floor : ℕ)
    → All (λ r. r.offset < next) rs
    → floor ≤ next
    → is_closed (last_records (from_list rs)) ≡ false
    → IsAdopted (topic_from rs next floor)

-- a set that keeps each last record still does with more of the whole
abbrev pub MoreKeepsLasts : Type 0
MoreKeepsLasts = (C P R : Records) → KeepsLasts C R → ((r : Record) → contains P r ≡ true → contains R r ≡ true) → KeepsLasts (union C P) R
