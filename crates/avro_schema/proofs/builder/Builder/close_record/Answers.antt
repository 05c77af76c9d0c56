use Rattle.std.proofs.Common.{◌∙◌, ap, refl, set}
use Rattle.avro_schema.specs.declared.node.Node.TheVariants as kind
use Rattle.avro_schema.specs.Building.{nodes_of}
use Rattle.avro_schema.proofs.builder.Builder.close_record.Goals as goal

pub returns-clause-ok : goal.returns-clause-ok
returns-clause-ok c =
    let r = c.args.started in
    record {
      id = refl;
      distinct = c.in_ok-list.ensures.ok.1;
      nodes = c.close.ensures.nodes
          ∙ ap (λ l. set (nodes_of c.args.self.now) r.index (kind.Record r.name c.from.result l)) c.in_ok-list.ensures.ok.0
          ∙ ap (λ l. set (nodes_of c.args.self.now) r.index (kind.Record r.name l c.args.fields.items)) c.from.ensures;
      names = c.close.ensures.names;
    }
