use Rattle.std.proofs.Common.{ap, subst, sym, ◌∙◌, arith}
use Rattle.std.proofs.lemmas.List.{take_all}
use Rattle.std.specs.FinSet.{contains, contains-empty, from_list}
use Rattle.reg_set.specs.RecordOrder.{record_cmp}
use Rattle.reg_floored.proofs.Left.{HasLeft, left_all, left_more}
use Rattle.reg_floored.proofs.dropping.without.Goals as goal

pub loop-record-init : goal.loop-record-init
loop-record-init c = λ q. ap (λ s. contains s q) c.new-left.ensures.empty ∙ contains-empty record_cmp q

pub loop-record-preserved : goal.loop-record-preserved
loop-record-preserved c =
    let o = c.records_are_ordered.ensures in
    let l = c.loop-record in
    let more = left_more o.all o.apart (from_list c.args.dropped.now) c.in_ok-gone.gone l.left c.deref-record-items.result.now
    l.record-index c.record-item.result c.in_ok-gone.ensures c.loop-record-test.true c.record-item.is l.invariant in
    λ q. ap (λ s. contains s q) c.in_ok-take_unless_gone.ensures ∙ more q

pub returns : goal.returns
returns c =
    let o = c.records_are_ordered.ensures in
    let rs = c.deref-record-items.result.now in
    let all = subst (λ l. HasLeft (from_list c.args.dropped.now) l c.loop-record.left)
    (take_all c.loop-record.record-index rs (omega (arith, c.loop-record-test.false))) c.loop-record.invariant in
    left_all o.all o.apart c.args.set.now c.loop-record.left c.args.dropped.now rs (
    c.in_ok-records.ensures.members ∙ ap from_list (sym c.deref-record-items.ensures.value)) all
