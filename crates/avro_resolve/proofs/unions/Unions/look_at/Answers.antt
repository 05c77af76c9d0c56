use Rattle.std.proofs.Common.{Some, ap, sym, ◌∙◌}
use Rattle.avro_resolve.specs.Unions.{branches_in}
use Rattle.avro_resolve.proofs.Indexed.{indexes_more}
use Rattle.avro_resolve.proofs.unions.Unions.look_at.Goals as goal

pub returns-in_ok-insert : goal.returns-in_ok-insert
returns-in_ok-insert c =
    indexes_more c.args.r.now.nodes c.args.self.now.of c.insert.new.self c.args.id.index
    c.in_ok-index.index c.as_slice-branches.result.now c.requires.made c.in_ok-index.ensures
    (ap branches_in (c.node.ensures.at ∙ ap Some c.in-Union.is) ∙ sym c.as_slice-branches.ensures)
    c.in_ok-insert.ensures.updates.0
