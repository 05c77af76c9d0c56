-- What every list of items keeps, and what lawful ones do.
use Rattle.std.proofs.Common.{◌≡◌, ◌+◌, ◌≤◌, Bool, true, false, ◌&&◌, ◌||◌, List, [], ◌∷◌}
use Rattle.std.proofs.Common.{◌++◌, nat_le, suc, length, refl, sym, ap, ◌∙◌, arith}
use Rattle.std.specs.Cmp.{IsTotalOrder}
use Rattle.std.specs.FinSet.{contains, from_list, IsAntisymmetric, contains-from_list, contains-union}
use Rattle.reg_leader.specs.reg_records.declared.record.Record.{Record}
use Rattle.reg_leader.specs.reg_set.RecordOrder.{record_cmp}
use Rattle.reg_floored.specs.Compaction.{IsCompactionOf}
use Rattle.reg_floored.specs.Laws.{CompactionsCompose, LaterRecordsMayJoin}
use Rattle.reg_leader.specs.OneStep.{goes_on}
use Rattle.reg_leader.specs.reg_records.declared.limits.TheConstants.{OFFSET_LIMIT}
use Rattle.reg_topic.specs.Laws.{AllowedDropsLeaveCompactions, FloorsRise, FloorsStayBelow, ItemsAreFoldedInTurn, KeptStaysCompaction}
use Rattle.reg_topic.specs.Laws.{LawfulItemsFollow, LawfulListsGoOn, LawfulListsJoin, ListsAreFoldedInTurn, LogsGrow, LogsGrowOverLists}
use Rattle.reg_topic.specs.Topic.{IsLawful, after_batch, after_compaction, after_item}
use Rattle.reg_topic.specs.Topic.{after_items, follows, left_by, may_compact, whole_log}
use Rattle.reg_topic.specs.declared.published.Compaction.{Compaction}
use Rattle.reg_topic.specs.declared.published.Item.{Item}
use Rattle.reg_topic.specs.declared.published.Item.TheVariants as items
use Rattle.reg_topic.specs.declared.topic.Topic.{Topic}
use Rattle.std.proofs.lemmas.Bool.{leb-true}
use Rattle.reg_topic.proofs.Bools.{both_true}
use Rattle.reg_topic.proofs.Offsets.{from_first}

pub after_push : ItemsAreFoldedInTurn
after_push t [] i = refl
after_push t (j ∷ is) i = after_push (after_item t j) is i

pub lawful_push : LawfulListsGoOn
lawful_push t [] i l m = (m, tt)
lawful_push t (j ∷ is) i l m = (l.0, lawful_push (after_item t j) is i l.1 m)

pub lawful_at : LawfulItemsFollow
lawful_at t [] after i l = l.0
lawful_at t (j ∷ before) after i l = lawful_at (after_item t j) before after i l.1

pub after_more : ListsAreFoldedInTurn
after_more t [] js = refl
after_more t (i ∷ is) js = after_more (after_item t i) is js

pub lawful_parts : LawfulListsJoin
lawful_parts t is js = (apart t is js, joined t is js)
  where
    apart : (t : Topic) (is js : List Item) → IsLawful t (is ++ js) → IsLawful t is × IsLawful (after_items t is) js
    apart t [] js l = (tt, l)
    apart t (i ∷ is) js l = let rest = apart (after_item t i) is js l.1 in ((l.0, rest.0), rest.1)

    joined : (t : Topic) (is js : List Item) → IsLawful t is × IsLawful (after_items t is) js → IsLawful t (is ++ js)
    joined t [] js l = l.1
    joined t (i ∷ is) js l = (l.0.0, joined (after_item t i) is js (l.0.1, l.1))

-- Logs.
module _ (order : IsTotalOrder record_cmp) where
  grows-batch : (b : Bool) (t : Topic) (batch : List Record) (r : Record)
      → contains t.log r ≡ true → contains (after_batch b t batch).log r ≡ true
  grows-batch true t batch r h =
      contains-union order t.log (from_list batch) r ∙ ap (λ b. b || contains (from_list {R = record_cmp} batch) r) h
  grows-batch false t batch r h = h

  grows-compaction : (b : Bool) (t : Topic) (c : Compaction) (r : Record)
      → contains t.log r ≡ true → contains (after_compaction b t c).log r ≡ true
  grows-compaction true t c r h = h
  grows-compaction false t c r h = h

  pub grows : LogsGrow
  grows t (items.Commit commit) r h = grows-batch (follows t.next commit.batch) t commit.batch r h
  grows t (items.Compaction c) r h = grows-compaction (may_compact t c) t c r h

  pub grows_over_lists : LogsGrowOverLists
  grows_over_lists t [] r h = h
  grows_over_lists t (i ∷ is) r h = grows_over_lists (after_item t i) is r (grows t i r h)

-- Floors.
abbrev IsLow : Topic → Type 0
IsLow t = t.kept.floor ≤ t.next

floors : (t : Topic) (c : Compaction) → may_compact t c ≡ true → (nat_le t.kept.floor c.floor && nat_le c.floor t.next) ≡ true
floors t c e = (both_true (nat_le t.kept.floor c.floor && nat_le c.floor t.next) _ e).0

low-batch : (b : Bool) (t : Topic) (batch : List Record) → IsLow t → IsLow (after_batch b t batch)
low-batch true t batch h = omega (arith, h)
low-batch false t batch h = h

low-compaction : (b : Bool) (t : Topic) (c : Compaction) → may_compact t c ≡ b → IsLow t → IsLow (after_compaction b t c)
low-compaction true t c e h = leb-true c.floor t.next (both_true (nat_le t.kept.floor c.floor) (nat_le c.floor t.next) (floors t c e)).1
low-compaction false t c e h = h

low-item : (t : Topic) (i : Item) → IsLow t → IsLow (after_item t i)
low-item t (items.Commit commit) h = low-batch (follows t.next commit.batch) t commit.batch h
low-item t (items.Compaction c) h = low-compaction (may_compact t c) t c refl h

pub stay_low : FloorsStayBelow
stay_low t [] h = h
stay_low t (i ∷ is) h = stay_low (after_item t i) is (low-item t i h)

rises-batch : (b : Bool) (t : Topic) (batch : List Record) → t.kept.floor ≤ (after_batch b t batch).kept.floor
rises-batch true t batch = omega arith
rises-batch false t batch = omega arith

rises-compaction : (b : Bool) (t : Topic) (c : Compaction) → may_compact t c ≡ b → t.kept.floor ≤ (after_compaction b t c).kept.floor
rises-compaction true t c e =
    leb-true t.kept.floor c.floor (both_true (nat_le t.kept.floor c.floor) (nat_le c.floor t.next) (floors t c e)).0
rises-compaction false t c e = omega arith

rises-item : (t : Topic) (i : Item) → t.kept.floor ≤ (after_item t i).kept.floor
rises-item t (items.Commit commit) = rises-batch (follows t.next commit.batch) t commit.batch
rises-item t (items.Compaction c) = rises-compaction (may_compact t c) t c refl

pub rise : FloorsRise
rise t [] = omega arith
rise t (i ∷ is) =
    let here = rises-item t i in
    let more = rise (after_item t i) is in
    omega (arith, here, more)

-- Kept sets.
module _ (order : IsTotalOrder record_cmp) (apart : IsAntisymmetric record_cmp)
    (across : CompactionsCompose) (join : LaterRecordsMayJoin) (drops : AllowedDropsLeaveCompactions) where
  abbrev IsKept : Topic → Type 0
  IsKept t = IsCompactionOf t.kept (whole_log t)

  -- where a batch is published, it goes on
  kept-batch : (b : Bool) (t : Topic) (batch : List Record) → follows t.next batch ≡ b → IsLow t → IsKept t → IsKept (after_batch b t batch)
  kept-batch true t batch e low h =
      join t.kept (whole_log t) (from_list batch) (λ r is.
      let on = (both_true (goes_on t.next batch) (nat_le (t.next + length batch) (suc OFFSET_LIMIT)) e).0 in
      let first = from_first order apart t.next batch r on (sym (contains-from_list order batch r) ∙ is) in
      omega (arith, low, first)) h
  kept-batch false t batch e low h = h

  kept-compaction : (b : Bool) (t : Topic) (c : Compaction) → may_compact t c ≡ b → IsKept t → IsKept (after_compaction b t c)
  kept-compaction true t c e h = across (left_by t c) t.kept (whole_log t) ((drops t c).0 e).3 h
  kept-compaction false t c e h = h

  kept-item : (t : Topic) (i : Item) → IsLow t → IsKept t → IsKept (after_item t i)
  kept-item t (items.Commit commit) low h = kept-batch (follows t.next commit.batch) t commit.batch refl low h
  kept-item t (items.Compaction c) low h = kept-compaction (may_compact t c) t c refl h

  pub kept-items : KeptStaysCompaction
  kept-items t [] low h = h
  kept-items t (i ∷ is) low h = kept-items (after_item t i) is (low-item t i low) (kept-item t i low h)
