use Rattle.std.proofs.Common.{◌≡◌, ◌++◌, take}
use Rattle.exposition.specs.Escapes.{escaped}
use Rattle.exposition.proofs.escaping.push_escaped.Given as goal

-- what stands up to there is appended
abbrev pub invariant-loop-b : goal.invariant-loop-b
invariant-loop-b l = l.out.items ≡ l.initial.out.items ++ escaped l.in_quotes (take l.b-index l.b-items)
