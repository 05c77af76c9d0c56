use Rattle.reg_fold.proofs.Standing.{entries-of_keys, entries-of_places}
use Rattle.reg_fold.proofs.laws.entries_are_of_places.Goals as goal

pub returns-clause-keys : goal.returns-clause-keys
returns-clause-keys c = entries-of_keys

pub returns-clause-stand : goal.returns-clause-stand
returns-clause-stand c =
    let order = c.records_are_ordered.ensures in
    let enough = c.last_records_are_enough.ensures in
    entries-of_places order.all order.apart c.last_is_greatest.ensures.greatest enough.last_of_last enough.least enough.last_records
