use Rattle.std.proofs.Common.{◌<◌, arith, refl}
use Rattle.avro_schema.specs.Building.{opened}
use Rattle.avro_schema.proofs.Lookups.{met_more}
use Rattle.avro_schema.proofs.builder.Builder.open.Goals as goal
use Rattle.avro_schema.specs.declared.limits.TheConstants.{SCHEMA_NODES_LIMIT}

pub returns-clause-met : goal.returns-clause-met
returns-clause-met c = λ ds met.
    let lt : opened c.args.self.now < SCHEMA_NODES_LIMIT = omega (arith, c.len-index.ensures, c.args.self.now.nodes.ok.0) in
    met_more c.args.self.now _ ds c.args.node c.in_ok-push.ensures.items refl lt met
