-- What each event keeps of a node, and what that says of one that is caught up.
use Rattle.std.proofs.Common.{◌≡◌, ◌⊎◌, inl, inr, ℕ, suc, ◌<◌, ◌≤◌, ◌+◌, ◌==◌, Bool, true, false, ◌&&◌, ◌||◌, List, []}
use Rattle.std.proofs.Common.{◌∷◌, Some, None, IfSome, length, nat_le, nat_lt, refl, sym, ap, ◌∙◌, arith, eqb-true}
use Rattle.std.proofs.lemmas.Bool.{false≢true, leb-true, lt-ltb}
use Rattle.std.specs.Cmp.{Equal-is}
use Rattle.std.specs.FinSet.{contains, empty, from_list, union, contains-empty, contains-from_list}
use Rattle.std.specs.List.{list_any}
use Rattle.std.specs.Ordering.{eq_by_cmp}
use Rattle.reg_alike.specs.reg_records.declared.key.Key.{Key}
use Rattle.reg_alike.specs.reg_records.declared.limits.TheConstants.{OFFSET_LIMIT}
use Rattle.reg_alike.specs.reg_records.declared.record.Record.{Record}
use Rattle.reg_alike.specs.reg_set.Compaction.{IsGone}
use Rattle.reg_alike.specs.reg_set.LastRecords.{last, last_records}
use Rattle.reg_alike.specs.reg_set.RecordOrder.{record_cmp}
use Rattle.reg_alike.specs.reg_set.Records.{Records}
use Rattle.reg_alike.specs.reg_floored.Compaction.{IsCompactionOf}
use Rattle.reg_alike.specs.reg_floored.Floors.{below, from_floor, rebased}
use Rattle.reg_alike.specs.reg_leader.OneStep.{goes_on}
use Rattle.reg_topic.specs.Topic.{after_batch, after_compaction, after_item, follows, left_by, may_compact, whole_log}
use Rattle.reg_topic.specs.declared.published.Compaction.{Compaction}
use Rattle.reg_topic.specs.declared.published.Item.{Item}
use Rattle.reg_topic.specs.declared.published.Item.TheVariants as items
use Rattle.reg_topic.specs.declared.topic.Topic.{Topic}
use Rattle.reg_world.specs.Core.{IsNodeOf}
use Rattle.reg_world.specs.Headline.{taken_by}
use Rattle.reg_world.specs.LowerLaws.{LowerLaws}
use Rattle.reg_world.specs.State.{compacted, no_records, rebasing, taking}
use Rattle.reg_world.specs.declared.node.WorldNode.{WorldNode}
use Rattle.reg_world.proofs.Bools.{both_true, either}
use Rattle.reg_world.proofs.Lasts.{IsPart, if_some, in_either, in_left, in_part, in_right, in_set, joined_of, keeps_compacted}
use Rattle.reg_world.proofs.Lasts.{last_absent, last_of_part, last_of_whole, lasts_in, no_record, of_part, of_some, offset_upto}

abbrev is_low : ℕ → Record → Bool
is_low floor r = nat_lt r.offset floor

abbrev is_high : ℕ → Record → Bool
is_high floor r = nat_le floor r.offset

-- nothing of the record's key stands in the set, or that record does
abbrev StandsAlone : Records → Record → Type 0
StandsAlone s r = (last s r.key ≡ None) ⊎ (contains s r ≡ true)

module _ (l : LowerLaws) where
  equal : (q r : Record) → eq_by_cmp record_cmp q r ≡ true → q ≡ r
  equal q r h = l.apart q r ((Equal-is (record_cmp q r)).0 h)

  -- the records of a batch stand at its first offset or above
  from_first : (n : ℕ) (rs : List Record) (q : Record) → goes_on n rs ≡ true → list_any (eq_by_cmp record_cmp q) rs ≡ true → n ≤ q.offset
  from_first n [] q on any = absurd (false≢true any)
  from_first n (r ∷ rs) q on any =
      let parts = both_true (r.offset == n) (goes_on (suc n) rs) on in
      elim (either (eq_by_cmp record_cmp q r) (list_any (eq_by_cmp record_cmp q) rs) any) as (λ _. n ≤ q.offset) [
        | inl e ↦ let at = ap (λ (x : Record). x.offset) (equal q r e) ∙ eqb-true r.offset n parts.0 in omega (arith, at)
        | inr rest ↦ let h = from_first (suc n) rs q parts.1 rest in omega (arith, h)
      ]

  late : (n : ℕ) (batch : List Record) (q : Record) → follows n batch ≡ true
      → contains (from_list {R = record_cmp} batch) q ≡ true → n ≤ q.offset
  late n batch q on there =
      from_first n batch q (both_true (goes_on n batch) (nat_le (n + length batch) (suc OFFSET_LIMIT)) on).0
      (sym (contains-from_list l.order batch q) ∙ there)

  -- a node's set is a compaction of what it took, and both are parts of the log
  pub node-compaction : (t : Topic) (n : WorldNode) → IsNodeOf t n → IsCompactionOf n.set (taken_by n)
  node-compaction t n h = keeps_compacted n.set.records n.took n.set.floor n.set.floor (omega arith) h.lasts

  pub node-part : (t : Topic) (n : WorldNode) → IsNodeOf t n → IsPart n.set.records t.log
  node-part t n h r e = h.part r (h.lasts.is_part r e)

  pub node-empty : (t : Topic) → IsNodeOf t no_records
  node-empty t = record {
    lasts = l.keeps_own empty;
    part = λ r h. absurd (false≢true (sym (contains-empty record_cmp r) ∙ h));
    not_ahead = omega arith;
    none_is_back = λ r is null low. absurd (omega (arith, low));
    has_lower = λ e key.
        if_some (last t.kept.records key) (λ (r : Record). r.offset < 0 → contains no_records.set.records r ≡ true)
        (λ r is low. absurd (omega (arith, low)));
  }

  -- records that join, where what the log deletes doesn't come back by them
  node-joining : (t : Topic) (more : Records) (n : WorldNode) → IsPart more t.log
      → ((r : Record) → last t.log r.key ≡ Some r → r.value ≡ None → r.offset < n.set.floor → StandsAlone (union n.set.records more) r)
      → IsNodeOf t n → IsNodeOf t (taking more n)
  node-joining t more n part alone h = record {
    lasts = l.unite n.set.records n.took more more h.lasts (l.keeps_own more);
    part = λ r e. elim (in_either l n.took more r e) [ inl old ↦ h.part r old | inr new ↦ part r new ];
    not_ahead = h.not_ahead;
    none_is_back = alone;
    has_lower = λ e key.
        if_some (last t.kept.records key) _
        (λ r is low. in_left l n.set.records more r (of_some (last t.kept.records key) _ r (h.has_lower e key) is low));
  }

  pub node-merging : (t : Topic) (n m : WorldNode) → n.set.floor ≡ m.set.floor
      → IsNodeOf t m → IsNodeOf t n → IsNodeOf t (taking m.set.records n)
  node-merging t n m one_floor other h =
      node-joining t m.set.records n (node-part t m other)
      (λ r is null low.
      joined_of l n.set.records m.set.records r (h.none_is_back r is null low)
      (other.none_is_back r is null (omega (arith, one_floor, low))))
      h

  pub node-compacted : (t : Topic) → IsCompactionOf t.kept (whole_log t) → (n : WorldNode) → IsNodeOf t n → IsNodeOf t (compacted n)
  node-compacted t kept n h =
      let s = n.set.records in
      let part = node-part t n h in
      -- a record that is the log's last one of its key, and that the node has, is the node's last one
      let stays : (key : Key) (r : Record) → last t.log key ≡ Some r → contains s r ≡ true → contains (last_records s) r ≡ true =
      λ key r is has. in_set l (last_records s) key r (l.lasts s key ∙ last_of_part l s t.log part key r is has) in
      record {
        lasts = l.keeps_across (last_records s) s n.took (l.keeps_least s) h.lasts;
        part = h.part;
        not_ahead = h.not_ahead;
        none_is_back = λ r is null low. elim (h.none_is_back r is null low) [
          | inl none ↦ inl (l.lasts s r.key ∙ none)
          | inr has ↦ inr (stays r.key r is has)
        ];
        has_lower = λ e key. if_some (last t.kept.records key) _ (λ r is low.
            stays key r (last_of_whole l t.kept (whole_log t) kept key r is)
            (of_some (last t.kept.records key) _ r (h.has_lower e key) is low));
      }

  pub node-taking : (t : Topic) → IsCompactionOf t.kept (whole_log t) → (more : Records)
      → IsPart more t.kept.records → (n : WorldNode) → n.set.floor ≡ t.kept.floor
      → IsNodeOf t n → IsNodeOf t (taking more n)
  node-taking t kept more are_kept n at_floor h =
      let part = kept.is_below_floor.is_part in
      node-joining t more n (λ r e. part r (are_kept r e))
      (λ r is null low. elim (lasts_in t.kept (whole_log t) kept r.key r is) [
        | inl has ↦ inr (in_left l n.set.records more r
            (of_some (last t.kept.records r.key) _ r (h.has_lower at_floor r.key)
            (last_of_part l t.kept.records t.log part r.key r is has) low))
        | inr gone ↦ joined_of l n.set.records more r (h.none_is_back r is null low)
            (inl (
            last_absent l more r.key (λ q inside same. no_record l t.kept.records r.key gone.has_no_other q (are_kept q inside) same)))
      ]) h

  pub node-rebasing : (t : Topic) → IsCompactionOf t.kept (whole_log t) → (n : WorldNode) → IsNodeOf t n → IsNodeOf t (rebasing t.kept n)
  node-rebasing t kept n h =
      let f = t.kept.floor in
      let part = kept.is_below_floor.is_part in
      let own : Records → Records = from_floor f in
      let others = below f t.kept.records in
      let comes : (r : Record) → contains t.kept.records r ≡ true → r.offset < f → contains (rebased n.set.records t.kept) r ≡ true =
      λ r has low. in_right l (own n.set.records) others r (in_part l t.kept.records (is_low f) r has (lt-ltb r.offset f low)) in
      record {
        lasts = l.rebase n.set.records n.took t.kept h.lasts;
        part = λ r e. elim (in_either l (own n.took) others r e) [
          | inl mine ↦ h.part r (of_part l n.took (is_high f) r mine).0
          | inr other ↦ part r (of_part l t.kept.records (is_low f) r other).0
        ];
        not_ahead = omega arith;
        none_is_back = λ r is null low. elim (lasts_in t.kept (whole_log t) kept r.key r is) [
          | inl has ↦ inr (comes r has low)
          | inr gone ↦ inl (last_absent l (rebased n.set.records t.kept) r.key (λ q inside same.
              elim (in_either l (own n.set.records) others q inside) [
                | inl mine ↦
                    let at = of_part l n.set.records (is_high f) q mine in
                    let high = leb-true f q.offset at.1 in
                    let upto = offset_upto l t.log r.key r q is (node-part t n h q at.0) same in
                    omega (arith, high, upto, low)
                | inr other ↦ no_record l t.kept.records r.key gone.has_no_other q (of_part l t.kept.records (is_low f) q other).0 same
              ]))
        ];
        has_lower = λ e key. if_some (last t.kept.records key) _ (λ r is low. comes r (in_set l t.kept.records key r is) low);
      }

  -- items
  node-batch : (b : Bool) (t : Topic) (batch : List Record) → follows t.next batch ≡ b
      → t.kept.floor ≤ t.next → (n : WorldNode) → IsNodeOf t n → IsNodeOf (after_batch b t batch) n
  node-batch false t batch e low n h = h
  node-batch true t batch e low n h =
      let more : Records = from_list batch in
      let ahead = h.not_ahead in
      -- below the node's floor stands no record of the batch, so that a last record there is the one before
      let before : (S : Records) (key : Key) (r : Record) → last (union S more) key ≡ Some r
      → r.offset < n.set.floor → last S key ≡ Some r =
      λ S key r is under. last_of_part l S (union S more) (in_left l S more) key r is
      (elim (in_either l S more r (in_set l (union S more) key r is)) [
        | inl old ↦ old
        | inr new ↦ let from = late t.next batch r e new in absurd (omega (arith, from, under, low, ahead))
      ]) in
      record {
        lasts = h.lasts;
        part = λ r has. in_left l t.log more r (h.part r has);
        not_ahead = ahead;
        none_is_back = λ r is null under. h.none_is_back r (before t.log r.key r is under) null under;
        has_lower = λ same key. if_some (last (union t.kept.records more) key) _ (λ r is under.
            of_some (last t.kept.records key) _ r (h.has_lower same key) (before t.kept.records key r is under) under);
      }

  node-drop : (b : Bool) (t : Topic) (c : Compaction) → may_compact t c ≡ b
      → (n : WorldNode) → IsNodeOf t n → IsNodeOf (after_compaction b t c) n
  node-drop false t c e n h = h
  node-drop true t c e n h =
      let may = (l.drops t c).0 e in
      let rises = may.0 in
      let ahead = h.not_ahead in
      record {
        lasts = h.lasts;
        part = h.part;
        not_ahead = omega (arith, rises, ahead);
        none_is_back = h.none_is_back;
        has_lower = λ same key. if_some (last (left_by t c).records key) _ (λ r is under.
            of_some (last t.kept.records key) _ r (h.has_lower (omega (arith, rises, ahead, same)) key)
            (last_of_whole l (left_by t c) t.kept may.3 key r is) under);
      }

  pub node-item : (t : Topic) (i : Item) → t.kept.floor ≤ t.next → (n : WorldNode) → IsNodeOf t n → IsNodeOf (after_item t i) n
  node-item t (items.Commit commit) low n h = node-batch (follows t.next commit.batch) t commit.batch refl low n h
  node-item t (items.Compaction c) low n h = node-drop (may_compact t c) t c refl n h
