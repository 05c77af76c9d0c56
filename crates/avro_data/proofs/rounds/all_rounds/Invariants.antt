-- Each round gives a type its sample that had none.
use Rattle.std.proofs.Common.{◌≤◌, ◌-◌, length}
use Rattle.avro_data.specs.Rounds.{AreRounds, AreCandidates, given_count}
use Rattle.avro_data.proofs.rounds.all_rounds.Given as goal

abbrev pub invariant-rounds : goal.invariant-rounds
invariant-rounds l = record {
  are : AreRounds l.schema.nodes l.table.items l.round;
  candidates : AreCandidates l.schema.nodes l.table.items l.round l.candidates.items;
  fewer : l.round ≤ given_count l.table.items;
}

abbrev pub decreases-rounds : goal.decreases-rounds
decreases-rounds l = length l.schema.nodes - l.round
