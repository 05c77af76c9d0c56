use Rattle.std.proofs.Common.{◌<◌, ap, ◌∙◌, length, arith}
use Rattle.std.specs.FinSet as set
use Rattle.reg_set.specs.LastRecords.{last_records}
use Rattle.reg_fold.proofs.Folding.{empty-union, of_lent, one_of_all}
use Rattle.reg_fold.proofs.registry.Registry.over_every_second.Goals as goal

pub loop-record-init : goal.loop-record-init
loop-record-init c =
    let order = c.records_are_ordered.ensures in
    let W = of_lent c.args.records.now in
    ap (λ s. last_records (set.union s W)) c.empty-registry.ensures ∙ ap last_records (empty-union order.all order.apart W)

pub loop-record-preserved : goal.loop-record-preserved
loop-record-preserved c =
    let order = c.records_are_ordered.ensures in
    let xs = c.args.records.now in
    let W = of_lent xs in
    let i = c.loop-record.record-index in
    let within : i < length xs = omega arith in
    let R = c.loop-record.registry in
    let r = c.record-item.result in
    ap (λ s. last_records (set.union s W)) c.in_ok-apply.ensures.added
    ∙ c.last_records_of_unions.ensures.last_records (set.insert R r.now) W
    ∙ ap last_records (one_of_all order.all order.apart R xs i r within c.record-item.is)
    ∙ c.loop-record.invariant
