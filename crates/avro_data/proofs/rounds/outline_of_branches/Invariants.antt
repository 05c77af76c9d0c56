-- What is still to be looked at decides.
use Rattle.std.proofs.Common.{◌≡◌, drop}
use Rattle.avro_data.specs.Outlines.{outlined_branches}
use Rattle.avro_data.specs.Rounds.{by_table}
use Rattle.avro_data.proofs.rounds.outline_of_branches.Given as goal

abbrev pub invariant-loop-k : goal.invariant-loop-k
invariant-loop-k l =
    outlined_branches (by_table l.table l.round) 0 l.branches ≡ outlined_branches (by_table l.table l.round) l.k (drop l.k l.branches)
