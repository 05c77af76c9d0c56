use Rattle.std.proofs.Common.{◌<◌, ap, ◌∙◌, length, Bor, List}
use Rattle.std.specs.FinSet.{insert}
use Rattle.reg_records.specs.declared.record.Record.{Record}
use Rattle.reg_set.specs.Records.{Records}
use Rattle.reg_node.proofs.Members.{lent-more}
use Rattle.reg_node.proofs.take.set_of.Goals as goal

pub loop-record-preserved : goal.loop-record-preserved
loop-record-preserved c =
    let o = c.records_are_ordered.ensures in
    let xs : List (Bor Record) = c.deref-record-items.result.now in
    let i = c.loop-record.record-index in
    let within : i < length xs = c.loop-record-test.true in
    c.in_ok-take.ensures.added
    ∙ (
    ap (λ (s : Records). insert s c.record-item.result.now) c.loop-record.invariant
    ∙ lent-more o.all o.apart xs i c.record-item.result within c.record-item.is)
