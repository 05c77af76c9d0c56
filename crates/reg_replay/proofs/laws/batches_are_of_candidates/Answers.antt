use Rattle.reg_replay.proofs.Complete.{batches_are_of_candidates}
use Rattle.reg_replay.proofs.laws.batches_are_of_candidates.Goals as goal

pub returns : goal.returns
returns c =
    batches_are_of_candidates c.entries_are_of_places.ensures.stand c.entries_are_in_limits.ensures c.entries_are_read.ensures
    c.normal_texts_read_back.ensures c.written_values_read_back.ensures
