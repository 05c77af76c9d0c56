use Rattle.std.proofs.Common.{IfSome, ◌≡◌, ◌++◌, ◌&&◌, ◌||◌, nat_lt, drop}
use Rattle.std.specs.FinSet.{contains, from_list}
use Rattle.std.specs.List.{filter}
use Rattle.reg_set.specs.RecordOrder.{record_cmp}
use Rattle.reg_shared.proofs.kept.copy_below.Given as goal

abbrev pub invariant-loop-record : goal.invariant-loop-record
invariant-loop-record l =
    (l.found.items
    ++ filter (λ r. nat_lt r.offset l.upto && (contains l.registry r || contains (from_list {R = record_cmp} l.older) r))
    (drop l.record-index l.records)
    ≡ filter (λ r. nat_lt r.offset l.upto && (contains l.registry r || contains (from_list {R = record_cmp} l.older) r)) l.records)
    × IfSome l.set (λ set. set ≡ from_list l.older)
