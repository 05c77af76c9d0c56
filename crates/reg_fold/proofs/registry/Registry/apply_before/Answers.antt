use Rattle.std.proofs.Common.{◌≡◌, true, ap, sym, subst, ◌∙◌}
use Rattle.std.specs.FinSet as set
use Rattle.std.specs.List.{list_all}
use Rattle.reg_set.specs.LastRecords.{last_records}
use Rattle.reg_fold.specs.Tombstones.{is_tombstone}
use Rattle.reg_fold.proofs.Tombstones.{added_all, stay_tombstones}
use Rattle.reg_fold.proofs.registry.Registry.apply_before.Goals as goal

pub bury_all-requires : goal.bury_all-requires
bury_all-requires c =
    let order = c.records_are_ordered.ensures in
    let greatest = c.last_is_greatest.ensures in
    let still = stay_tombstones order.all greatest.greatest greatest.none c.last_records_are_enough.ensures.last_of_last
    c.args.self.now c.args.first.now c.args.tombstones.now c.requires in
    subst (λ qs. list_all (is_tombstone c.apply_beside.new.self) qs ≡ true) (sym c.in_ok-copies.ensures)
    (subst (λ rs. list_all (is_tombstone rs) c.args.tombstones.now ≡ true) (sym c.in_ok-apply_beside.ensures.added) still)

pub returns-clause-added : goal.returns-clause-added
returns-clause-added c =
    let order = c.records_are_ordered.ensures in
    c.bury_all.ensures
    ∙ ap (λ qs. last_records (set.union c.apply_beside.new.self (set.from_list qs))) c.in_ok-copies.ensures
    ∙ added_all order.all order.apart c.last_records_of_unions.ensures.last_records c.args.self.now
    c.apply_beside.new.self c.args.first.now c.args.tombstones.now c.in_ok-apply_beside.ensures.added
