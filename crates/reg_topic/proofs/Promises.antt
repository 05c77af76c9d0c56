-- What every batch keeps, every lawful list does.
use Rattle.std.proofs.Common.{◌≡◌, ◌⊎◌, inl, inr, ℕ, Bool, true, false, List, [], ◌∷◌, ◌++◌, Contains, refl, sym, subst, ◌∙◌}
use Rattle.std.specs.Cmp.{IsTotalOrder}
use Rattle.std.specs.FinSet.{from_list, union, IsAntisymmetric}
use mathlib.Core.List.{IsPrefix}
use Rattle.reg_leader.specs.reg_records.declared.record.Record.{Record}
use Rattle.reg_leader.specs.reg_set.LastRecords.{last_records}
use Rattle.reg_leader.specs.reg_set.RecordOrder.{record_cmp}
use Rattle.reg_leader.specs.reg_entries.declared.entry.Entry.{Entry}
use Rattle.reg_leader.specs.reg_fold.Closed.{is_closed}
use Rattle.reg_leader.specs.reg_fold.Entries.{entries}
use Rattle.reg_leader.specs.OneStep.{BatchesGoOn, StepsMeetLevels}
use Rattle.reg_leader.specs.StayOpen.{StepsStayOpen, last_after}
use Rattle.reg_leader.specs.GivenIds.{AreBelow, EntriesHaveGivenIds, IsGiven, StepsKeepGivenIds}
use Rattle.reg_topic.specs.Promises.{LawfulListsKeepIds, LawfulListsMeetLevels, LawfulListsStayOpen}
use Rattle.reg_topic.specs.Topic.{IsAdopted, IsLawful, MayFollow, after_batch, after_compaction}
use Rattle.reg_topic.specs.Topic.{after_item, after_items, follows, may_compact, registry_of}
use Rattle.reg_topic.specs.declared.published.Compaction.{Compaction}
use Rattle.reg_topic.specs.declared.published.Item.{Item}
use Rattle.reg_topic.specs.declared.published.Item.TheVariants as items
use Rattle.reg_topic.specs.declared.topic.Topic.{Topic}
use Rattle.reg_topic.proofs.Offsets.{below_batch, below_compaction}
use Rattle.reg_topic.proofs.Topics.{after_more, lawful_at, lawful_parts}

-- the entry stood in the log after those items
abbrev StoodAfter : Topic → List Item → Entry → Type 0
StoodAfter base is e = Contains (entries (registry_of (after_items base is))) e

-- of two fronts of a list one is a front of the other
fronts : (xs ys ps qs : List Item) → xs ++ ps ≡ ys ++ qs → IsPrefix xs ys ⊎ IsPrefix ys xs
fronts [] ys ps qs same = inl (ys, refl)
fronts (x ∷ xs) [] ps qs same = inr (x ∷ xs, refl)
fronts (x ∷ xs) (y ∷ ys) ps qs same =
    let here : x ≡ y = cc in
    let back : y ≡ x = sym here in
    let rest : xs ++ ps ≡ ys ++ qs = cc in
    elim (fronts xs ys ps qs rest) as (λ _. IsPrefix (x ∷ xs) (y ∷ ys) ⊎ IsPrefix (y ∷ ys) (x ∷ xs)) [
      | inl p ↦ inl (p.0, λ i. here i ∷ p.1 i)
      | inr p ↦ inr (p.0, λ i. back i ∷ p.1 i)
    ]

lawful_front : (base : Topic) (one is : List Item) → IsPrefix one is → IsLawful base is → IsLawful base one
lawful_front base one is p lawful = ((lawful_parts base one p.0).0 (subst (IsLawful base) (sym p.1) lawful)).0

-- a registry that takes commands, of a log with no offset at or past the next one
record IsSteady (t : Topic) : Type 0 where
  not_closed : is_closed (registry_of t) ≡ false
  below : AreBelow t.log t.next

steady : (base : Topic) → IsAdopted base → IsSteady base
steady base adopted = record { not_closed = adopted.not_closed; below = adopted.ahead }

module _ (order : IsTotalOrder record_cmp) (apart : IsAntisymmetric record_cmp) (go : BatchesGoOn) (stay : StepsStayOpen) where
  open_batch : (b : Bool) (t : Topic) (batch : List Record) → is_closed (last_records (union t.log (from_list batch))) ≡ false
      → is_closed (registry_of t) ≡ false → is_closed (registry_of (after_batch b t batch)) ≡ false
  open_batch true t batch more h = more
  open_batch false t batch more h = h

  open_compaction : (b : Bool) (t : Topic) (c : Compaction) → is_closed (registry_of t) ≡ false
      → is_closed (registry_of (after_compaction b t c)) ≡ false
  open_compaction true t c h = h
  open_compaction false t c h = h

  steady_item : (t : Topic) (i : Item) → MayFollow t i → IsSteady t → IsSteady (after_item t i)
  steady_item t (items.Commit commit) m h = record {
    not_closed = open_batch (follows t.next commit.batch) t commit.batch
        (stay t.log t.next commit.command m.reply commit.batch h.not_closed m.step) h.not_closed;
    below = below_batch order apart (follows t.next commit.batch) t commit.batch
        (λ _. go (registry_of t) t.next commit.command m.reply commit.batch m.step) h.below;
  }
  steady_item t (items.Compaction c) m h = record {
    not_closed = open_compaction (may_compact t c) t c h.not_closed;
    below = below_compaction (may_compact t c) t c h.below;
  }

  steady_items : (t : Topic) (is : List Item) → IsLawful t is → IsSteady t → IsSteady (after_items t is)
  steady_items t [] l h = h
  steady_items t (i ∷ is) l h = steady_items (after_item t i) is l.1 (steady_item t i l.0 h)

  pub stay_open : LawfulListsStayOpen
  stay_open base is adopted lawful = (steady_items base is lawful (steady base adopted)).not_closed

  module _ (take : EntriesHaveGivenIds) (keep : StepsKeepGivenIds) where
    taken_batch : (b : Bool) (t : Topic) (batch : List Record) (id : ℕ) (normal : List ℕ) → IsGiven (last_after t.log batch) id normal
        → IsGiven (registry_of t) id normal → IsGiven (registry_of (after_batch b t batch)) id normal
    taken_batch true t batch id normal more h = more
    taken_batch false t batch id normal more h = h

    taken_compaction : (b : Bool) (t : Topic) (c : Compaction) (id : ℕ) (normal : List ℕ)
        → IsGiven (registry_of t) id normal → IsGiven (registry_of (after_compaction b t c)) id normal
    taken_compaction true t c id normal h = h
    taken_compaction false t c id normal h = h

    taken_item : (t : Topic) (i : Item) (id : ℕ) (normal : List ℕ) → MayFollow t i → IsSteady t
        → IsGiven (registry_of t) id normal → IsGiven (registry_of (after_item t i)) id normal
    taken_item t (items.Commit commit) id normal m s h =
        taken_batch (follows t.next commit.batch) t commit.batch id normal
        (keep t.log t.next commit.command m.reply commit.batch s.not_closed s.below m.step id normal h) h
    taken_item t (items.Compaction c) id normal m s h = taken_compaction (may_compact t c) t c id normal h

    taken_items : (t : Topic) (is : List Item) (id : ℕ) (normal : List ℕ) → IsLawful t is → IsSteady t
        → IsGiven (registry_of t) id normal → IsGiven (registry_of (after_items t is)) id normal
    taken_items t [] id normal l s h = h
    taken_items t (i ∷ is) id normal l s h =
        taken_items (after_item t i) is id normal l.1 (steady_item t i l.0 s) (taken_item t i id normal l.0 s h)

    -- an entry of a front, and one of the list
    later_on : (base : Topic) (one more : List Item) → IsAdopted base → IsLawful base (one ++ more) → (e f : Entry)
        → StoodAfter base one e → StoodAfter base (one ++ more) f → e.id ≡ f.id → e.normal ≡ f.normal
    later_on base one more adopted lawful e f in_e in_f same =
        let parts = (lawful_parts base one more).0 lawful in
        let t : Topic = after_items base one in
        let s : IsSteady t = steady_items base one parts.0 (steady base adopted) in
        let taken = taken_items t more e.id e.normal parts.1 s (take (registry_of t) s.not_closed e in_e) in
        sym (taken.no_other f (subst (λ (u : Topic). Contains (entries (registry_of u)) f) (after_more base one more) in_f) (sym same))

    pub keep_ids : LawfulListsKeepIds
    keep_ids base is adopted lawful one other p q e f in_e in_f same =
        elim (fronts one other p.0 q.0 (p.1 ∙ sym q.1)) as (λ _. e.normal ≡ f.normal) [
          | inl d ↦ later_on base one d.0 adopted (subst (IsLawful base) (sym d.1) (lawful_front base other is q lawful)) e f in_e
              (subst (λ (js : List Item). StoodAfter base js f) (sym d.1) in_f) same
          | inr d ↦ sym (
              later_on base other d.0 adopted (subst (IsLawful base) (sym d.1) (lawful_front base one is p lawful)) f e in_f
              (subst (λ (js : List Item). StoodAfter base js e) (sym d.1) in_e) (sym same))
        ]

pub meet_levels : StepsMeetLevels → LawfulListsMeetLevels
meet_levels meet base is lawful before subject text batch (after, same) =
    let may = lawful_at base before after _ (subst (IsLawful base) same lawful) in
    elim (meet (registry_of (after_items base before)) (after_items base before).next subject text may.reply batch may.step) [
      | inl none ↦ absurd (may.writes none)
      | inr met ↦ met
    ]
