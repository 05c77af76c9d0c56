use Rattle.std.proofs.Common.{subst}
use Rattle.avro_schema.specs.declared.node.Node.{Node}
use Rattle.avro_schema.specs.Sound.{HaveDistinctNames, fields_of_node}
use Rattle.avro_resolve.proofs.table.long_records.Goals as goal

pub returns-then-names_match-clause-readers : goal.returns-then-names_match-clause-readers
returns-then-names_match-clause-readers c =
    let OfNode : Node → Type 0 = λ n. HaveDistinctNames (fields_of_node n) in
    subst OfNode c.in-Record.is (c.node.ensures.sound.distinct_fields c.args.pair.reader.index c.node.result.now c.node.ensures.at)

pub returns-then-names_match-clause-writers : goal.returns-then-names_match-clause-writers
returns-then-names_match-clause-writers c =
    let OfNode : Node → Type 0 = λ n. HaveDistinctNames (fields_of_node n) in
    subst OfNode c.in-Record-node.is (
    c.node-2.ensures.sound.distinct_fields c.args.pair.writer.index c.node-2.result.now c.node-2.ensures.at)
