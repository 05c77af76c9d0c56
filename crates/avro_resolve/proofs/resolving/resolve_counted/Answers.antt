use Rattle.avro_resolve.proofs.resolving.resolve_counted.Goals as goal

pub resolve_by-requires-clause-unions : goal.resolve_by-requires-clause-unions
resolve_by-requires-clause-unions c = c.none-unions.ensures c.args.r.now.nodes

pub resolve_by-requires-clause-field_indexes : goal.resolve_by-requires-clause-field_indexes
resolve_by-requires-clause-field_indexes c = c.none-field_indexes.ensures c.args.r.now.nodes
