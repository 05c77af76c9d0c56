use Rattle.std.proofs.Common.{◌<◌, length, refl, ◌∙◌, arith}
use Rattle.std.proofs.lemmas.Option.{slice_get_within}
use Rattle.avro_data.proofs.UserLaws.{uses_step}
use Rattle.avro_data.proofs.users.users.Goals as goal

pub loop-index-preserved : goal.loop-index-preserved
loop-index-preserved c =
    let l = c.loop-index in
    let step = c.in_ok-add_uses.ensures in
    record {
      size = step.size ∙ l.invariant.size;
      each = uses_step c.args.schema.now.nodes l.users.items c.add_uses.new.users.items l.index
          (record { index = l.index }) c.node.result.now refl c.node.ensures.at step.size step.grown l.invariant.each step.added;
    }

pub returns : goal.returns
returns c =
    let l = c.loop-index in
    record {
      size = l.invariant.size;
      each = λ i n at.
          l.invariant.each i n (let lt : i.index < length c.args.schema.now.nodes = slice_get_within c.args.schema.now.nodes i.index n at in
          omega arith) at;
    }
