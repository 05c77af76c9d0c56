use Rattle.std.proofs.Common.{◌≡◌, ◌*◌, ◌≤◌, take, sum}
use Rattle.exposition.proofs.writing.total.Given as goal

-- the counts so far are summed
abbrev pub invariant-loop-count : goal.invariant-loop-count
invariant-loop-count l = (l.all ≡ sum (take l.count-index l.counts)) × (l.all ≤ l.count-index * 18446744073709551615)
