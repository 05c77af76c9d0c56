use Rattle.std.proofs.Common.{◌≡◌, get_or, Contains, Some, slice_get}
use Rattle.std.proofs.lemmas.Option.{slice_get-get_or}
use Rattle.avro_schema.specs.declared.node.NodeId.{NodeId}
use Rattle.avro_data.proofs.UserLaws.{one_further, all_of}
use Rattle.avro_data.proofs.users.add_all.Goals as goal

pub loop-id-preserved : goal.loop-id-preserved
loop-id-preserved c =
    let l = c.loop-id in
    let ids = c.args.ids.now in
    let x : NodeId = get_or ids l.id-index (record { index = 0 }) in
    let at : slice_get ids l.id-index ≡ Some x = slice_get-get_or ids l.id-index (record { index = 0 }) c.loop-id-test.true in
    record {
      kept = λ i has. c.in_ok-add.ensures.kept i (l.invariant.kept i has);
      added = one_further ids l.id-index x (λ i. Contains c.add.new.list.items i) at
          (λ n i lt here. c.in_ok-add.ensures.kept i (l.invariant.added n i lt here)) c.in_ok-add.ensures.added;
    }

pub returns-clause-added : goal.returns-clause-added
returns-clause-added c =
    all_of c.args.ids.now c.loop-id.id-index (λ i. Contains c.loop-id.found.items i) c.loop-id-test.false c.loop-id.invariant.added
