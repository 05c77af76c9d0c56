use Rattle.std.proofs.Common.{subst}
use Rattle.avro_schema.specs.declared.node.Node.{Node}
use Rattle.avro_schema.specs.Sound.{HaveDistinctNames, fields_of_node}
use Rattle.avro_resolve.proofs.table.record_row.Goals as goal

pub returns-then-names_match-clause-distinct : goal.returns-then-names_match-clause-distinct
returns-then-names_match-clause-distinct c =
    let OfNode : Node → Type 0 = λ n. HaveDistinctNames (fields_of_node n) in
    subst OfNode c.in-Record.is c.requires
