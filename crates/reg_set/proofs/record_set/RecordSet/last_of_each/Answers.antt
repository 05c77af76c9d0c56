use Rattle.std.proofs.Common.{map, subst}
use Rattle.std.specs.FinSet.{from_list}
use Rattle.reg_set.specs.Compaction.{KeepsLasts}
use Rattle.reg_set.proofs.record_set.RecordSet.last_of_each.Goals as goal

pub returns : goal.returns
returns c = subst (KeepsLasts (from_list (map (λ r. r.now) c.in_ok-found.found.items))) c.self.view_is c.in_ok-found.ensures
