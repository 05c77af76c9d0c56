use Rattle.avro_resolve.proofs.Indexed.{alias_more}
use Rattle.avro_resolve.proofs.unions.add_aliases.Goals as goal

pub loop-alias-preserved : goal.loop-alias-preserved
loop-alias-preserved c = λ q.
    alias_more c.args.branch c.args.labelled.now c.loop-alias.labelled c.add_label.new.labelled c.full_label.result q (
    c.in_ok-add_label.ensures q)
    c.args.head.shape c.args.head.aliases.now c.loop-alias.alias-index c.alias-item.result c.loop-alias-test.true c.alias-item.is
    c.full_label.ensures.shape c.full_label.ensures.name c.full_label.ensures.namespace (c.loop-alias.invariant q)
