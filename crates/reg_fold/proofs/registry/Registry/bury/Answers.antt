use Rattle.std.proofs.Common.{◌≡◌, true, sym, subst}
use Rattle.std.specs.FinSet as set
use Rattle.reg_set.specs.LastRecords.{last_records}
use Rattle.reg_fold.specs.Tombstones.{is_tombstone}
use Rattle.reg_fold.proofs.Tombstones.{stays_tombstone}
use Rattle.reg_fold.proofs.registry.Registry.bury.Goals as goal

pub returns-clause-others : goal.returns-clause-others
returns-clause-others c other h =
    let order = c.records_are_ordered.ensures in
    let greatest = c.last_is_greatest.ensures in
    subst (λ rs. is_tombstone rs other ≡ true) (sym c.bury.ensures.added)
    (subst (λ rs. is_tombstone (last_records (set.insert rs c.args.tombstone)) other ≡ true) (sym c.self.view_is)
    (stays_tombstone order.all greatest.greatest greatest.none
    c.last_records_are_enough.ensures.last_of_last c.args.self.now c.args.tombstone other h))
