use Rattle.std.proofs.Common.{◌≡◌, replicate, None}
use Rattle.avro_data.proofs.rounds.nothing_given.Given as goal

abbrev pub invariant-loop-made : goal.invariant-loop-made
invariant-loop-made l = l.table.items ≡ replicate l._made None
