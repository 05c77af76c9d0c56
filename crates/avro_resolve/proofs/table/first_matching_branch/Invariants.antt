use Rattle.std.proofs.Common.{◌≡◌, drop, find}
use Rattle.std.specs.List.{enumerate_from}
use Rattle.avro_resolve.specs.Match.{matches}
use Rattle.avro_resolve.proofs.table.first_matching_branch.Given as goal

-- the branches so far don't match
abbrev pub invariant-loop-k : goal.invariant-loop-k
invariant-loop-k l =
    find (λ b. matches l.r.nodes l.w.nodes b.1 l.j) (enumerate_from 0 l.branches)
    ≡ find (λ b. matches l.r.nodes l.w.nodes b.1 l.j) (enumerate_from l.k (drop l.k l.branches))
