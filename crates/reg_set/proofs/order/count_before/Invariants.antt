use Rattle.std.proofs.Common.{◌≡◌, ◌≤◌, ◌-◌, true, false, take, drop, length}
use Rattle.std.specs.List.{list_any, list_all}
use Rattle.std.specs.Ordering.{is_lt}
use Rattle.reg_set.specs.RecordOrder.{record_cmp}
use Rattle.reg_set.proofs.order.count_before.Given as goal

abbrev pub invariant-loop-low : goal.invariant-loop-low
invariant-loop-low l =
    (l.low ≤ l.high)
    × (l.high ≤ length l.records)
    × (list_all (λ q. is_lt (record_cmp q l.given)) (take l.low l.records) ≡ true)
    × (list_any (λ q. is_lt (record_cmp q l.given)) (drop l.high l.records) ≡ false)

abbrev pub decreases-loop-low : goal.decreases-loop-low
decreases-loop-low l = l.high - l.low
