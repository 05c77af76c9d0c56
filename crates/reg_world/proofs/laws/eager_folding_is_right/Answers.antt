use Rattle.reg_world.proofs.EagerRight.{eager_folding}
use Rattle.reg_world.proofs.laws.eager_folding_is_right.Goals as goal

pub returns : goal.returns
returns c =
    let order = c.records_are_ordered.ensures in
    eager_folding (record {
      last = record {
        order = order.all;
        apart = order.apart;
        ages = order.of_one_key;
        greatest = c.last_is_greatest.ensures.greatest;
        none = c.last_is_greatest.ensures.none;
        lasts = c.last_records_are_enough.ensures.last_of_last;
      };
      alike = c.compactions_give_alike.ensures;
      keyed = c.entries_are_of_places.ensures.keys;
      stand = c.entries_are_of_places.ensures.stand;
      read = c.written_values_read_back.ensures;
      go_on = c.batches_go_on.ensures;
      ends = c.batches_end_by_the_limit.ensures;
      deletes = c.deletes_name_greatest.ensures;
    }) c.every_list_of_events_is_lawful.ensures.log
