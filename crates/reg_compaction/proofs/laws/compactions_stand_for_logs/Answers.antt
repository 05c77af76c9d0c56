use Rattle.reg_compaction.proofs.Saying.{of_across, of_batches, of_compacted, of_itself}
use Rattle.reg_compaction.proofs.laws.compactions_stand_for_logs.Goals as goal

pub returns-clause-compacted : goal.returns-clause-compacted
returns-clause-compacted c =
    of_compacted c.last_records_are_compactions.ensures.last_records c.last_records_are_compactions.ensures.to_floor

pub returns-clause-itself : goal.returns-clause-itself
returns-clause-itself c = of_itself c.compactions_compose.ensures.itself

pub returns-clause-across : goal.returns-clause-across
returns-clause-across c = of_across c.compactions_compose.ensures.across

pub returns-clause-batches : goal.returns-clause-batches
returns-clause-batches c =
    let o = c.records_are_ordered.ensures in
    of_batches o.all o.apart o.keys o.keys_apart c.batches_add_records.ensures.records c.compactions_unite.ensures.later
