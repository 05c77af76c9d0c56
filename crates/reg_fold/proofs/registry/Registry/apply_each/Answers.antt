use Rattle.std.proofs.Common.{◌<◌, ap, sym, ◌∙◌, length, take, arith}
use Rattle.std.specs.FinSet as set
use Rattle.reg_set.specs.LastRecords.{last_records}
use Rattle.reg_fold.proofs.Folding.{union-empty, union-more}
use Rattle.reg_fold.proofs.registry.Registry.apply_each.Goals as goal

pub loop-record-init : goal.loop-record-init
loop-record-init c =
    let order = c.records_are_ordered.ensures in
    sym (ap last_records (union-empty order.all order.apart c.args.self.now ∙ sym c.self.view_is) ∙ c.is_compact.ensures ∙ c.self.view_is)

pub loop-record-preserved : goal.loop-record-preserved
loop-record-preserved c =
    let order = c.records_are_ordered.ensures in
    let xs = c.args.records.now in
    let i = c.loop-record.record-index in
    let within : i < length xs = omega arith in
    c.in_ok-apply_beside.ensures.whole (set.union c.args.self.now (set.from_list (take i xs))) c.loop-record.invariant
    ∙ ap last_records (union-more order.all order.apart c.args.self.now xs i c.record-item.result within c.record-item.is)
