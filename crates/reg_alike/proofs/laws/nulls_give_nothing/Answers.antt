use Rattle.reg_alike.proofs.Nulls.{nulls_give_nothing}
use Rattle.reg_alike.proofs.laws.nulls_give_nothing.Goals as goal

pub returns : goal.returns
returns c =
    nulls_give_nothing (record {
      total = c.records_are_ordered.ensures.all;
      ties = c.records_are_ordered.ensures.apart;
      greatest = c.last_is_greatest.ensures.greatest;
      lasts = c.last_records_are_enough.ensures.last_of_last;
    })
