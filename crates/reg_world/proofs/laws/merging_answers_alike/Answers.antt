use Rattle.reg_world.proofs.Merging.{merging}
use Rattle.reg_world.proofs.laws.merging_answers_alike.Goals as goal

pub returns : goal.returns
returns c =
    let m = c.merging_joins_kept_sets.ensures in
    merging m.commutative m.associative m.idempotent c.compactions_unite.ensures.union c.compactions_answer_alike.ensures
