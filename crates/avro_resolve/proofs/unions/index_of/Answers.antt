use Rattle.std.proofs.Common.{get_or, subst}
use Rattle.std.proofs.lemmas.List.{take_all}
use Rattle.avro_schema.specs.declared.node.NodeId.{NodeId}
use Rattle.avro_resolve.specs.Unions.{IsIndex}
use Rattle.avro_resolve.proofs.Indexed.{index_more}
use Rattle.avro_resolve.proofs.FieldIndexes.{any_default}
use Rattle.avro_resolve.proofs.unions.index_of.Goals as goal

pub loop-k-preserved : goal.loop-k-preserved
loop-k-preserved c =
    let bs = c.args.branches.now in
    let k = c.loop-k.k in
    let d : NodeId = record { index = 0 } in
    index_more c.args.r.now.nodes bs k (get_or bs k d) c.node.result.now c.loop-k.index c.add.new.self c.loop-k-test.true
    (any_default bs k d (get_or bs k d) c.loop-k-test.true)
    c.node.ensures.at c.in_ok-add.ensures.labelled c.in_ok-add.ensures.unnamed c.loop-k.invariant

pub returns : goal.returns
returns c =
    subst (λ bs. IsIndex c.args.r.now.nodes bs c.loop-k.index)
    (take_all c.loop-k.k c.args.branches.now c.loop-k-test.false) c.loop-k.invariant
