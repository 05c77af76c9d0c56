-- What may be dropped leaves a compaction.
use Rattle.std.proofs.Common.{◌&&◌, nat_le}
use Rattle.std.proofs.lemmas.Bool.{le-leb, leb-true}
use Rattle.reg_floored.specs.Floors.{may_leave}
use Rattle.reg_floored.specs.Laws.{DropsLeaveCompactions}
use Rattle.reg_topic.specs.Laws.{AllowedDropsLeaveCompactions}
use Rattle.reg_topic.proofs.Bools.{both, both_true}

pub drops_leave_compactions : DropsLeaveCompactions → AllowedDropsLeaveCompactions
drops_leave_compactions drops t c =
    let may = may_leave c.floor t.kept.records c.dropped in (
      (λ h.
          let parts = both_true (nat_le t.kept.floor c.floor && nat_le c.floor t.next) may h in
          let floors = both_true (nat_le t.kept.floor c.floor) (nat_le c.floor t.next) parts.0 in
          let rises = leb-true t.kept.floor c.floor floors.0 in
          let leaves = (drops t.kept c.floor c.dropped rises).0 parts.1 in
          (rises, leb-true c.floor t.next floors.1, leaves.0, leaves.1)),
      (λ is.
          both (both (le-leb t.kept.floor c.floor is.0) (le-leb c.floor t.next is.1))
          ((drops t.kept c.floor c.dropped is.0).1 (is.2, is.3))),
    )
