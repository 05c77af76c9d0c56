use Rattle.std.proofs.Common.{◌≡◌, ◌<◌, ◌-◌, ◌++◌}
use Rattle.exposition.specs.Numbers.{places}
use Rattle.exposition.proofs.number.push_places.Given as goal

-- what is still to be written makes the text whole
abbrev pub invariant-loop-place : goal.invariant-loop-place
invariant-loop-place l = (l.rest < 1000000)
    × (l.out.items ++ places (6 - l._place) l.rest ≡ l.initial.out.items ++ places 6 l.millionths)
