use Rattle.reg_leader.proofs.Opens.{keeps_ids, stays_open}
use Rattle.reg_leader.proofs.staying.steps_stay_open.Goals as goal

pub returns-clause-stay : goal.returns-clause-stay
returns-clause-stay c = λ log n command reply batch closed step.
    stays_open c.records_are_ordered.ensures.all c.records_are_ordered.ensures.apart c.last_is_greatest.ensures.greatest
    c.merging_joins_sets.ensures.last c.entries_are_of_places.ensures.stand c.written_values_read_back.ensures
    log n batch c.none_is_no_opaque_last.ensures c.two_schemas_is_least.ensures.none closed
    (c.steps_are_harmless.ensures _ n command reply batch step)

pub returns-clause-ids : goal.returns-clause-ids
returns-clause-ids c = λ log n command reply batch closed step.
    keeps_ids c.records_are_ordered.ensures.all c.records_are_ordered.ensures.apart c.last_is_greatest.ensures.greatest
    c.merging_joins_sets.ensures.last c.entries_are_of_places.ensures.stand c.written_values_read_back.ensures
    log n batch c.two_schemas_is_least.ensures.none closed (c.steps_are_harmless.ensures _ n command reply batch step)
