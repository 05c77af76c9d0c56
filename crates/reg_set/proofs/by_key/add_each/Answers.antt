use Rattle.std.proofs.Common.{sym, ap, ◌∙◌, arith}
use Rattle.std.proofs.lemmas.List.{take_all}
use Rattle.std.specs.FinSet.{from_list, insert, union}
use Rattle.reg_set.proofs.Joined.{one_more_in, union-nothing}
use Rattle.reg_set.proofs.by_key.add_each.Goals as goal

pub loop-record-init : goal.loop-record-init
loop-record-init c = sym (union-nothing c.args.into.now)

pub loop-record-preserved : goal.loop-record-preserved
loop-record-preserved c =
    c.in_ok-take.ensures.added ∙ ap (λ s. insert s c.record-item.result) c.loop-record.invariant
    ∙ one_more_in c.args.into.now c.args.records.now c.loop-record.record-index
    c.record-item.result c.loop-record-test.true c.record-item.is

pub returns : goal.returns
returns c =
    c.loop-record.invariant
    ∙ ap (λ l. union c.args.into.now (from_list l)) (take_all c.loop-record.record-index c.args.records.now (omega arith))
