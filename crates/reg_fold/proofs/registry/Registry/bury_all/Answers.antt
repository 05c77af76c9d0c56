use Rattle.std.proofs.Common.{List, ap, length, sym, ◌∙◌}
use Rattle.std.proofs.lemmas.Iterator.Adapters.{YieldsList-from_vec}
use Rattle.std.proofs.lemmas.Iterator.Consumers.{YieldsList-turn, YieldsList-end}
use Rattle.std.proofs.lemmas.List.{map-id}
use Rattle.std.specs.FinSet as set
use Rattle.reg_values.specs.reg_records.declared.record.Record.{Record}
use Rattle.reg_set.specs.LastRecords.{last_records}
use Rattle.reg_fold.specs.Tombstones.{is_tombstone}
use Rattle.reg_fold.proofs.Folding.{union-empty, union-push}
use Rattle.reg_fold.proofs.Tombstones.{each_passes}
use Rattle.reg_fold.proofs.registry.Registry.bury_all.Goals as goal

pub loop-tombstone-init : goal.loop-tombstone-init
loop-tombstone-init c =
    let order = c.records_are_ordered.ensures in
    record {
      added = sym (
          ap last_records (union-empty order.all order.apart c.args.self.now ∙ sym c.self.view_is) ∙ c.is_compact.ensures ∙ c.self.view_is);
      others = λ other h. h;
    }

pub bury-requires : goal.bury-requires
bury-requires c =
    let xs = c.args.tombstones.items in
    let gives = c.into_iter-tombstone-iterator.ensures.into_iter_gives in
    let t = YieldsList-turn
    (YieldsList-from_vec xs gives.0 (gives.1 ∙ c.args.tombstones.ok.0)) c.loop-tombstone.yielded c.loop-tombstone.tombstone-iterator
    c.loop-tombstone.yielded_by c.next.result c.next.new.self c.in-Some.tombstone c.in-Some.is c.next.ensures.steps in
    c.loop-tombstone.invariant.others c.in-Some.tombstone (
    each_passes (is_tombstone c.args.self.now) xs (length c.loop-tombstone.yielded) c.in-Some.tombstone t.0 t.1 c.requires)

pub loop-tombstone-preserved : goal.loop-tombstone-preserved
loop-tombstone-preserved c =
    let order = c.records_are_ordered.ensures in
    record {
      added = c.bury.ensures.whole (set.union c.args.self.now (set.from_list c.loop-tombstone.yielded)) c.loop-tombstone.invariant.added
          ∙ ap last_records (union-push order.all order.apart c.args.self.now c.loop-tombstone.yielded c.in-Some.tombstone);
      others = λ other h. c.bury.ensures.others other (c.loop-tombstone.invariant.others other h);
    }

pub returns : goal.returns
returns c =
    let xs = c.args.tombstones.items in
    let gives = c.into_iter-tombstone-iterator.ensures.into_iter_gives in
    let t = YieldsList-end (YieldsList-from_vec xs gives.0 (gives.1 ∙ c.args.tombstones.ok.0)) c.loop-tombstone.yielded
    c.loop-tombstone.tombstone-iterator c.loop-tombstone.yielded_by c.next.result c.next.new.self c.in-None.is c.next.ensures.steps in
    c.loop-tombstone.invariant.added
    ∙ ap (λ (ys : List Record). last_records (set.union c.args.self.now (set.from_list ys))) (sym (map-id c.loop-tombstone.yielded) ∙ t.0)
