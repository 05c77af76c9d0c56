use Rattle.reg_leader.proofs.GivenIds.{entries_have_given_ids, steps_keep_given_ids}
use Rattle.reg_leader.proofs.staying.steps_keep_given_ids.Goals as goal

pub returns-clause-entries : goal.returns-clause-entries
returns-clause-entries c = entries_have_given_ids c.two_schemas_is_least.ensures.none

pub returns-clause-kept : goal.returns-clause-kept
returns-clause-kept c =
    steps_keep_given_ids c.records_are_ordered.ensures.all c.records_are_ordered.ensures.apart
    c.records_are_ordered.ensures.of_one_key c.last_is_greatest.ensures.greatest c.merging_joins_sets.ensures.last
    c.last_records_are_enough.ensures.last_of_last c.entries_are_of_places.ensures.stand
    c.written_values_read_back.ensures c.entries_are_in_limits.ensures c.id_mark_is_in_limits.ensures
    c.two_schemas_is_least.ensures.none c.entries_are_read.ensures c.normal_texts_read_back.ensures
