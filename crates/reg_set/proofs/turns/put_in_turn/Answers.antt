use Rattle.reg_set.proofs.turns.put_in_turn.Goals as goal

pub returns : goal.returns
returns c = c.sort_unstable_by.ensures.permutation
