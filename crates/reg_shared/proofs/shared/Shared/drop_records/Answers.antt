use Rattle.std.proofs.Common.{rules, ◌≡◌, ◌≤◌, true, false, ◌&&◌, not, is_none, List, sym, ap, subst, ◌∙◌, arith}
use Rattle.std.specs.FinSet.{contains, difference, from_list}
use Rattle.std.specs.List.{filter, list_all}
use Rattle.reg_records.specs.declared.record.Record.{Record}
use Rattle.reg_set.specs.LastRecords.{last_records}
use Rattle.reg_set.specs.RecordOrder.{record_cmp}
use Rattle.reg_set.specs.Records.{Records}
use Rattle.reg_floored.specs.Floored.{Floored}
use Rattle.reg_floored.specs.Floors.{may_leave, without}
use Rattle.reg_topic.specs.Topic.{may_compact}
use Rattle.reg_shared.specs.Held.{Held, base_of, held_after_compaction}
use Rattle.reg_shared.specs.Kept.{kept_of, may_go}
use Rattle.reg_shared.proofs.Held.{held_dropped, held_stays, may_compact_is}
use Rattle.reg_shared.proofs.Leaving.{lasts_left_are, left_is, may_leave_is, part}
use Rattle.reg_shared.proofs.shared.Shared.drop_records.Goals as goal

pub invariant_of-self : goal.invariant_of-self
invariant_of-self c =
    let o = c.records_are_ordered.ensures in
    let g = c.last_is_greatest.ensures in
    let lasts : Records = c.self.inside.registry in
    let xs : List Record = c.self.inside.older.items in
    let ds : List Record = c.args.compaction.now.dropped in
    let floor = c.args.compaction.now.floor in
    let whole : Records = kept_of lasts xs in
    let same : c.as_slice-dropped.result.now ≡ ds = c.as_slice-dropped.ensures in
    let older : c.in_ok-older.older ≡ from_list xs = c.in_ok-older.ensures ∙ ap from_list c.deref.ensures.value in
    let gone : c.in_ok-gone.gone ≡ from_list ds = c.in_ok-gone.ensures ∙ ap from_list same in
    let left : c.in_ok-left.left.items ≡ filter (λ r. not (contains (from_list {R = record_cmp} ds) r) && not (contains lasts r)) xs =
    c.in_ok-left.ensures ∙ (ap (filter (λ r. not (contains c.in_ok-gone.gone r) && not (contains lasts r))) c.deref-2.ensures.value
    ∙ ap (λ (s : Records). filter (λ r. not (contains s r) && not (contains lasts r)) xs) gone) in
    let rest : c.in_ok-rest.rest ≡ from_list (filter (λ r. not (contains (from_list {R = record_cmp} ds) r) && not (contains lasts r)) xs) =
    c.in_ok-rest.ensures ∙ ap from_list (c.deref-3.ensures.value ∙ left) in
    let found : list_all (may_go lasts c.in_ok-older.older c.in_ok-rest.rest floor) c.as_slice-dropped.result.now ≡ true = search rules in
    let all : list_all (
    may_go lasts (from_list xs)
    (from_list (filter (λ r. not (contains (from_list {R = record_cmp} ds) r) && not (contains lasts r)) xs)) floor) ds
    ≡ true =
    sym (λ i. list_all (may_go lasts (older i) (rest i) floor) (same i)) ∙ found in
    let may : may_leave floor whole ds ≡ true =
    sym (may_leave_is o.all o.apart g.greatest g.none lasts xs ds floor c.self.invariant.of_kept) ∙ all in
    let after : c.forget_all.new.self ≡ difference lasts (from_list (filter (λ r. is_none r.value) ds)) =
    c.forget_all.ensures.left ∙ ap (λ rs. difference lasts (from_list (filter (λ r. is_none r.value) rs))) same in
    let kept : kept_of c.forget_all.new.self c.in_ok-left.left.items ≡ without whole ds =
    (λ i. kept_of (after i) (left i)) ∙ left_is o.all o.apart g.greatest g.none lasts xs ds floor c.self.invariant.of_kept may in record {
      of_kept = after
          ∙ (lasts_left_are o.all o.apart g.greatest g.none lasts xs ds floor c.self.invariant.of_kept may ∙ ap last_records (sym kept));
      among = λ r h.
          c.self.invariant.among r (
          part o.all o.apart g.greatest g.none lasts xs ds floor c.self.invariant.of_kept may r
          (ap (λ (s : Records). contains s r) (sym kept) ∙ h));
      all_kept = λ none. absurd (omega arith);
      in_order = c.self.invariant.in_order;
      below = c.self.invariant.below;
    }

pub returns-clause-taken : goal.returns-clause-taken
returns-clause-taken c =
    let o = c.records_are_ordered.ensures in
    let g = c.last_is_greatest.ensures in
    let lasts : Records = c.self.inside.registry in
    let xs : List Record = c.self.inside.older.items in
    let ds : List Record = c.args.compaction.now.dropped in
    let floor = c.args.compaction.now.floor in
    let whole : Records = kept_of lasts xs in
    let same : c.as_slice-dropped.result.now ≡ ds = c.as_slice-dropped.ensures in
    let older : c.in_ok-older.older ≡ from_list xs = c.in_ok-older.ensures ∙ ap from_list c.deref.ensures.value in
    let gone : c.in_ok-gone.gone ≡ from_list ds = c.in_ok-gone.ensures ∙ ap from_list same in
    let left : c.in_ok-left.left.items ≡ filter (λ r. not (contains (from_list {R = record_cmp} ds) r) && not (contains lasts r)) xs =
    c.in_ok-left.ensures ∙ (ap (filter (λ r. not (contains c.in_ok-gone.gone r) && not (contains lasts r))) c.deref-2.ensures.value
    ∙ ap (λ (s : Records). filter (λ r. not (contains s r) && not (contains lasts r)) xs) gone) in
    let rest : c.in_ok-rest.rest ≡ from_list (filter (λ r. not (contains (from_list {R = record_cmp} ds) r) && not (contains lasts r)) xs) =
    c.in_ok-rest.ensures ∙ ap from_list (c.deref-3.ensures.value ∙ left) in
    let found : list_all (may_go lasts c.in_ok-older.older c.in_ok-rest.rest floor) c.as_slice-dropped.result.now ≡ true = search rules in
    let all : list_all (
    may_go lasts (from_list xs)
    (from_list (filter (λ r. not (contains (from_list {R = record_cmp} ds) r) && not (contains lasts r)) xs)) floor) ds
    ≡ true =
    sym (λ i. list_all (may_go lasts (older i) (rest i) floor) (same i)) ∙ found in
    let may : may_leave floor whole ds ≡ true =
    sym (may_leave_is o.all o.apart g.greatest g.none lasts xs ds floor c.self.invariant.of_kept) ∙ all in
    let after : c.forget_all.new.self ≡ difference lasts (from_list (filter (λ r. is_none r.value) ds)) =
    c.forget_all.ensures.left ∙ ap (λ rs. difference lasts (from_list (filter (λ r. is_none r.value) rs))) same in
    let kept : kept_of c.forget_all.new.self c.in_ok-left.left.items ≡ without whole ds =
    (λ i. kept_of (after i) (left i)) ∙ left_is o.all o.apart g.greatest g.none lasts xs ds floor c.self.invariant.of_kept may in
    let here : Held = record {
      kept = record { records = whole; floor = c.self.inside.floor };
      next = c.self.inside.next;
      compacted = c.self.inside.compacted;
    } in
    let there : Held = record {
      kept = record { records = kept_of c.forget_all.new.self c.in_ok-left.left.items; floor = floor };
      next = c.self.inside.next;
      compacted = c.self.inside.next;
    } in
    let goes : may_compact (base_of here) c.args.compaction.now ≡ true =
    may_compact_is here c.args.compaction.now true (subst (λ (h : Held). h.kept.floor ≤ floor) (sym c.self.view_is) c.requires.rises)
    (subst (λ (h : Held). floor ≤ h.next) (sym c.self.view_is) c.requires.ahead) may in
    subst (λ (h : Held).
    there ≡ held_after_compaction (may_compact (base_of h) c.args.compaction.now) h c.args.compaction.now) c.self.view_is
    (held_dropped here c.args.compaction.now (may_compact (base_of here) c.args.compaction.now) there.kept goes
    (ap (λ (s : Records). let k : Floored = record { records = s; floor = floor } in k) kept))

pub returns-then-not-may_leave-clause-taken : goal.returns-then-not-may_leave-clause-taken
returns-then-not-may_leave-clause-taken c =
    let o = c.records_are_ordered.ensures in
    let g = c.last_is_greatest.ensures in
    let lasts : Records = c.self.inside.registry in
    let xs : List Record = c.self.inside.older.items in
    let ds : List Record = c.args.compaction.now.dropped in
    let floor = c.args.compaction.now.floor in
    let whole : Records = kept_of lasts xs in
    let same : c.as_slice-dropped.result.now ≡ ds = c.as_slice-dropped.ensures in
    let older : c.in_ok-older.older ≡ from_list xs = c.in_ok-older.ensures ∙ ap from_list c.deref.ensures.value in
    let gone : c.in_ok-gone.gone ≡ from_list ds = c.in_ok-gone.ensures ∙ ap from_list same in
    let left : c.in_ok-left.left.items ≡ filter (λ r. not (contains (from_list {R = record_cmp} ds) r) && not (contains lasts r)) xs =
    c.in_ok-left.ensures ∙ (ap (filter (λ r. not (contains c.in_ok-gone.gone r) && not (contains lasts r))) c.deref-2.ensures.value
    ∙ ap (λ (s : Records). filter (λ r. not (contains s r) && not (contains lasts r)) xs) gone) in
    let rest : c.in_ok-rest.rest ≡ from_list (filter (λ r. not (contains (from_list {R = record_cmp} ds) r) && not (contains lasts r)) xs) =
    c.in_ok-rest.ensures ∙ ap from_list (c.deref-3.ensures.value ∙ left) in
    let found : list_all (may_go lasts c.in_ok-older.older c.in_ok-rest.rest floor) c.as_slice-dropped.result.now ≡ false = search rules in
    let all : list_all (
    may_go lasts (from_list xs)
    (from_list (filter (λ r. not (contains (from_list {R = record_cmp} ds) r) && not (contains lasts r)) xs)) floor) ds
    ≡ false =
    sym (λ i. list_all (may_go lasts (older i) (rest i) floor) (same i)) ∙ found in
    let may : may_leave floor whole ds ≡ false =
    sym (may_leave_is o.all o.apart g.greatest g.none lasts xs ds floor c.self.invariant.of_kept) ∙ all in
    let here : Held = record {
      kept = record { records = whole; floor = c.self.inside.floor };
      next = c.self.inside.next;
      compacted = c.self.inside.compacted;
    } in
    let goes : may_compact (base_of here) c.args.compaction.now ≡ false =
    may_compact_is here c.args.compaction.now false (subst (λ (h : Held). h.kept.floor ≤ floor) (sym c.self.view_is) c.requires.rises)
    (subst (λ (h : Held). floor ≤ h.next) (sym c.self.view_is) c.requires.ahead) may in
    subst (λ (h : Held). h ≡ held_after_compaction (may_compact (base_of h) c.args.compaction.now) h c.args.compaction.now) c.self.view_is
    (held_stays here c.args.compaction.now (may_compact (base_of here) c.args.compaction.now) goes)
