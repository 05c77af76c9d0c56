use Rattle.reg_leader.proofs.Harmless.{steps_are_harmless}
use Rattle.reg_leader.proofs.staying.steps_are_harmless.Goals as goal

pub returns : goal.returns
returns c =
    steps_are_harmless c.two_schemas_is_least.ensures.none c.entries_are_read.ensures
    c.entries_are_in_limits.ensures c.normal_texts_read_back.ensures
