use Rattle.std.proofs.Common.{◌≡◌, drop, find}
use Rattle.avro_resolve.specs.Match.{matches}
use Rattle.avro_resolve.proofs.unions.first_among.Given as goal

-- the branches so far don't match
abbrev pub invariant-loop-b : goal.invariant-loop-b
invariant-loop-b l =
    find (λ b. matches l.r.nodes l.w.nodes b.1 l.j) l.fn.branches
    ≡ find (λ b. matches l.r.nodes l.w.nodes b.1 l.j) (drop l.b-index l.branches)
