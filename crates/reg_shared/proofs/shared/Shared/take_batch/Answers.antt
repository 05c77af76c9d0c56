use Rattle.std.proofs.Common.{rules, ◌≡◌, ℕ, ◌+◌, ◌<◌, true, List, ◌++◌, length, refl, sym, ap, subst, ◌∙◌, arith}
use Rattle.std.specs.FinSet.{contains, from_list, union}
use Rattle.std.specs.List.{AllByRecursion}
use Rattle.reg_records.specs.declared.record.Record.{Record}
use Rattle.reg_set.specs.LastRecords.{last_records}
use Rattle.reg_set.specs.Records.{Records, is_in_order}
use Rattle.reg_topic.specs.Topic.{follows}
use Rattle.reg_shared.specs.Held.{Held, held_after_batch}
use Rattle.reg_shared.specs.Kept.{kept_of}
use Rattle.reg_shared.proofs.Growing.{grown_is}
use Rattle.reg_shared.proofs.Held.{goes, held_grown}
use Rattle.reg_shared.proofs.Keeping.{all_more, among_more}
use Rattle.reg_shared.proofs.Rising.{all_append, all_map, goes_on_is, in_order_append}
use Rattle.reg_shared.proofs.shared.Shared.take_batch.Goals as goal

pub invariant_of-self-2 : goal.invariant_of-self-2
invariant_of-self-2 c =
    let o = c.records_are_ordered.ensures in
    let lasts : Records = c.self.inside.registry in
    let older : List Record = c.self.inside.older.items in
    let xs : List Record = c.self.inside.by_offset.items in
    let next : ℕ = c.self.inside.next in
    let batch : List Record = c.args.batch.now in
    let go : follows next batch ≡ true = search rules in
    let on = goes_on_is next batch (goes next batch go) in
    let is : c.grow.new.by_offset.items ≡ xs ++ batch = c.in_ok-grow.ensures.by_offset in
    let whole : Records = kept_of lasts older in
    let after : c.grow.new.registry ≡ last_records (union whole (from_list batch)) =
    c.in_ok-grow.ensures.registry whole c.self.invariant.of_kept in
    let kept : kept_of c.grow.new.registry c.grow.new.older.items ≡ union whole (from_list batch) =
    ap (kept_of c.grow.new.registry) c.in_ok-grow.ensures.older
    ∙ grown_is o.all o.apart o.keys o.keys_apart c.last_is_greatest.ensures.greatest
    c.merging_joins_sets.ensures.last c.last_records_are_enough.ensures.last_of_last
    whole lasts c.grow.new.registry older batch refl c.self.invariant.of_kept after in record {
      of_kept = after ∙ ap last_records (sym kept);
      among = λ r h.
          among_more o.all o.apart whole xs c.grow.new.by_offset.items batch c.self.invariant.among is r
          (ap (λ (s : Records). contains s r) (sym kept) ∙ h);
      all_kept = λ none r h. ap (λ (s : Records). contains s r) kept
          ∙ all_more o.all o.apart whole xs c.grow.new.by_offset.items batch (c.self.invariant.all_kept none) is r h;
      in_order = ap is_in_order is
          ∙ in_order_append next xs batch c.self.invariant.in_order on.in_order c.self.invariant.below on.above;
      below = subst (AllByRecursion (λ r. r.offset < next + length batch)) (sym is)
          (all_append (λ r. r.offset < next + length batch) xs batch (
          all_map (λ r. r.offset < next) (λ r. r.offset < next + length batch) (λ r h. omega arith) xs c.self.invariant.below) on.below);
    }

pub returns-clause-taken : goal.returns-clause-taken
returns-clause-taken c =
    let o = c.records_are_ordered.ensures in
    let lasts : Records = c.self.inside.registry in
    let older : List Record = c.self.inside.older.items in
    let next : ℕ = c.self.inside.next in
    let batch : List Record = c.args.batch.now in
    let go : follows next batch ≡ true = search rules in
    let whole : Records = kept_of lasts older in
    let after : c.grow.new.registry ≡ last_records (union whole (from_list batch)) =
    c.in_ok-grow.ensures.registry whole c.self.invariant.of_kept in
    let kept : kept_of c.grow.new.registry c.grow.new.older.items ≡ union whole (from_list batch) =
    ap (kept_of c.grow.new.registry) c.in_ok-grow.ensures.older
    ∙ grown_is o.all o.apart o.keys o.keys_apart c.last_is_greatest.ensures.greatest
    c.merging_joins_sets.ensures.last c.last_records_are_enough.ensures.last_of_last
    whole lasts c.grow.new.registry older batch refl c.self.invariant.of_kept after in
    let here : Held =
    record { kept = record { records = whole; floor = c.self.inside.floor }; next = next; compacted = c.self.inside.compacted } in
    let there : Held = record {
      kept = record { records = kept_of c.grow.new.registry c.grow.new.older.items; floor = c.self.inside.floor };
      next = next + length batch;
      compacted = c.self.inside.compacted;
    } in
    subst (λ (h : Held). there ≡ held_after_batch (follows h.next batch) h batch) c.self.view_is
    (held_grown here batch (follows next batch) (kept_of c.grow.new.registry c.grow.new.older.items) go kept)
