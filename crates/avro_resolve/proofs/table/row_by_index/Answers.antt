use Rattle.std.proofs.Common.{◌≡◌, Some, ap, sym, ◌∙◌, find}
use Rattle.std.specs.List.{enumerate_from}
use Rattle.avro_schema.specs.declared.node.Node.TheVariants as kind
use Rattle.avro_resolve.specs.Match.{matches}
use Rattle.avro_resolve.specs.Table.{to_reader_branch}
use Rattle.avro_resolve.proofs.Rows.{row_of_union}
use Rattle.avro_resolve.proofs.table.row_by_index.Goals as goal

pub plain_row-requires : goal.plain_row-requires
plain_row-requires c =
    c.node-writer.ensures.sound.distinct_fields c.args.pair.writer.index c.node-writer.result.now c.node-writer.ensures.at

pub branch_row-requires-clause-plain : goal.branch_row-requires-clause-plain
branch_row-requires-clause-plain c = λ cs at.
    let both : Some c.node-writer.result.now ≡ Some (kind.Union cs) = sym c.node-writer.ensures.at ∙ at in
    c.in_default.not-Union _ (let e : c.node-writer.result.now ≡ kind.Union cs = cc in e)

pub returns-in-Union-node : goal.returns-in-Union-node
returns-in-Union-node c = record {
  row = c.branch_row.ensures.row
      ∙ ap (λ bs.
      to_reader_branch c.args.pair.writer (
      find (λ b. matches c.args.r.now.nodes c.args.w.now.nodes b.1 c.args.pair.writer)
      (enumerate_from 0 bs))) c.as_slice-in-Union-node.ensures
      ∙ sym (
      row_of_union c.args.r.now.nodes c.args.w.now.nodes c.args.pair _ _ c.in-Union-node.branches c.node-writer.result.now
      (c.node.ensures.at ∙ ap Some c.in-Union-node.is) c.node-writer.ensures.at c.in_default.not-Union);
  distinct = c.branch_row.ensures.distinct;
}
