-- What each item of a lawful list leaves, and what is given for good over the list.
use Rattle.std.proofs.Common.{◌≡◌, inl, inr, ℕ, ◌+◌, ◌<◌, ◌≤◌, true, false, List, [], ◌∷◌, length}
use Rattle.std.proofs.Common.{refl, sym, ap, subst, ◌∙◌, arith}
use Rattle.std.proofs.lemmas.Bool.{false≢true}
use Rattle.std.proofs.lemmas.List.Folds.{list_any-append}
use Rattle.std.specs.Cmp.{IsTotalOrder}
use Rattle.std.specs.FinSet.{contains, from_list, union, IsAntisymmetric, contains-from_list, contains-union}
use Rattle.std.specs.Ordering.{eq_by_cmp}
use Rattle.reg_alike.specs.reg_fold.Closed.{is_closed}
use Rattle.reg_alike.specs.reg_records.declared.record.Record.{Record}
use Rattle.reg_alike.specs.reg_set.LastRecords.{last_records}
use Rattle.reg_alike.specs.reg_set.RecordOrder.{record_cmp}
use Rattle.reg_alike.specs.reg_leader.GivenIds.{AreBelow, IsGiven, StepsKeepGivenIds}
use Rattle.reg_alike.specs.reg_leader.OneStep.{BatchesGoOn, goes_on}
use Rattle.reg_alike.specs.reg_leader.StayOpen.{StepsStayOpen}
use Rattle.reg_topic.specs.Laws.{CommitsFollow}
use Rattle.reg_topic.specs.Topic.{IsAdopted, IsLawful, MayCommit, MayFollow, after_batch, after_compaction, after_item, after_items}
use Rattle.reg_topic.specs.Topic.{may_compact, published_by, records_of_item, registry_of}
use Rattle.reg_topic.specs.declared.published.Commit.{Commit}
use Rattle.reg_topic.specs.declared.published.Compaction.{Compaction}
use Rattle.reg_topic.specs.declared.published.Item.{Item}
use Rattle.reg_topic.specs.declared.published.Item.TheVariants as items
use Rattle.reg_topic.specs.declared.topic.Topic.{Topic}
use Rattle.reg_processes.proofs.Offsets.{either, is_among, within}

-- a registry that takes commands, of a log with no offset at or past the next one
pub record IsSteady (t : Topic) : Type 0 where
  pub not_closed : is_closed (registry_of t) ≡ false
  pub below : AreBelow t.log t.next

pub steady : (base : Topic) → IsAdopted base → IsSteady base
steady base adopted = record { not_closed = adopted.not_closed; below = adopted.ahead }

-- an allowed compaction leaves the log and the next offset
log_compacted : (t : Topic) (c : Compaction) → may_compact t c ≡ true → (after_item t (items.Compaction c)).log ≡ t.log
log_compacted t c may = ap (λ b. (after_compaction b t c).log) may

next_compacted : (t : Topic) (c : Compaction) → may_compact t c ≡ true → (after_item t (items.Compaction c)).next ≡ t.next
next_compacted t c may = ap (λ b. (after_compaction b t c).next) may

module _ (order : IsTotalOrder record_cmp) (apart : IsAntisymmetric record_cmp) (go : BatchesGoOn) (follow : CommitsFollow) where
  log_committed : (t : Topic) (commit : Commit) → MayCommit t commit
      → (after_item t (items.Commit commit)).log ≡ union t.log (from_list commit.batch)
  log_committed t commit m = ap (λ b. (after_batch b t commit.batch).log) (follow t commit m)

  next_committed : (t : Topic) (commit : Commit) → MayCommit t commit
      → (after_item t (items.Commit commit)).next ≡ t.next + length commit.batch
  next_committed t commit m = ap (λ b. (after_batch b t commit.batch).next) (follow t commit m)

  next_rises : (t : Topic) (i : Item) → MayFollow t i → t.next ≤ (after_item t i).next
  next_rises t (items.Commit commit) m = let e = next_committed t commit m in omega (arith, e)
  next_rises t (items.Compaction c) m = let e = next_compacted t c m in omega (arith, e)

  item_goes_on : (t : Topic) (i : Item) → MayFollow t i → goes_on t.next (records_of_item i) ≡ true
  item_goes_on t (items.Commit commit) m = go (registry_of t) t.next commit.command m.reply commit.batch m.step
  item_goes_on t (items.Compaction c) m = refl

  -- what a lawful list published stands at the next offset or behind it
  pub published_from : (t : Topic) (is : List Item) → IsLawful t is → (q : Record) → is_among q (published_by is) ≡ true → t.next ≤ q.offset
  published_from t [] l q any = absurd (false≢true any)
  published_from t (i ∷ is) l q any =
      elim (
      either (is_among q (records_of_item i)) (is_among q (published_by is))
      (sym (list_any-append (eq_by_cmp record_cmp q) (records_of_item i) (published_by is)) ∙ any))
      as (λ _. t.next ≤ q.offset) [
        | inl here ↦ (within apart t.next (records_of_item i) q (item_goes_on t i l.0) here).0
        | inr later ↦
            let h = published_from (after_item t i) is l.1 q later in
            let rises = next_rises t i l.0 in
            omega (arith, h, rises)
      ]

  module _ (stay : StepsStayOpen) where
    steady_item : (t : Topic) (i : Item) → MayFollow t i → IsSteady t → IsSteady (after_item t i)
    steady_item t (items.Commit commit) m s = record {
      not_closed = subst (λ log. is_closed (last_records log) ≡ false) (sym (log_committed t commit m))
          (stay t.log t.next commit.command m.reply commit.batch s.not_closed m.step);
      below = λ q h.
          elim (
          either (contains t.log q) (contains (from_list {R = record_cmp} commit.batch) q)
          (sym (contains-union order t.log (from_list commit.batch) q) ∙ sym (ap (λ log. contains log q) (log_committed t commit m)) ∙ h))
          as (λ _. q.offset < (after_item t (items.Commit commit)).next) [
            | inl old ↦
                let k = s.below q old in
                let e = next_committed t commit m in
                omega (arith, k, e)
            | inr new ↦
                let k = (within apart t.next commit.batch q (item_goes_on t (items.Commit commit) m)
                (sym (contains-from_list order commit.batch q) ∙ new)).1 in
                let e = next_committed t commit m in
                omega (arith, k, e)
          ];
    }
    steady_item t (items.Compaction c) m s = record {
      not_closed = subst (λ log. is_closed (last_records log) ≡ false) (sym (log_compacted t c m)) s.not_closed;
      below = λ q h.
          let k = s.below q (sym (ap (λ log. contains log q) (log_compacted t c m)) ∙ h) in
          let e = next_compacted t c m in
          omega (arith, k, e);
    }

    pub steady_items : (t : Topic) (is : List Item) → IsLawful t is → IsSteady t → IsSteady (after_items t is)
    steady_items t [] l s = s
    steady_items t (i ∷ is) l s = steady_items (after_item t i) is l.1 (steady_item t i l.0 s)

    module _ (keep : StepsKeepGivenIds) where
      given_item : (t : Topic) (i : Item) (id : ℕ) (normal : List ℕ) → MayFollow t i → IsSteady t
          → IsGiven (registry_of t) id normal → IsGiven (registry_of (after_item t i)) id normal
      given_item t (items.Commit commit) id normal m s h =
          subst (λ log. IsGiven (last_records log) id normal) (sym (log_committed t commit m))
          (keep t.log t.next commit.command m.reply commit.batch s.not_closed s.below m.step id normal h)
      given_item t (items.Compaction c) id normal m s h =
          subst (λ log. IsGiven (last_records log) id normal) (sym (log_compacted t c m)) h

      -- what is given stays so over a lawful list
      pub given_items : (t : Topic) (is : List Item) (id : ℕ) (normal : List ℕ) → IsLawful t is → IsSteady t
          → IsGiven (registry_of t) id normal → IsGiven (registry_of (after_items t is)) id normal
      given_items t [] id normal l s h = h
      given_items t (i ∷ is) id normal l s h =
          given_items (after_item t i) is id normal l.1 (steady_item t i l.0 s) (given_item t i id normal l.0 s h)
