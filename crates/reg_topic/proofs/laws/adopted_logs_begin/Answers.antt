use Rattle.reg_topic.proofs.Beginnings.{adopted_begin}
use Rattle.reg_topic.proofs.laws.adopted_logs_begin.Goals as goal

pub returns : goal.returns
returns c =
    let o = c.records_are_ordered.ensures in
    adopted_begin o.all o.apart c.last_is_greatest.ensures.greatest c.merging_joins_sets.ensures.last
    c.last_records_are_enough.ensures.last_of_last c.entries_are_of_places.ensures.stand
    c.none_is_no_opaque_last.ensures c.two_schemas_is_least.ensures.none
