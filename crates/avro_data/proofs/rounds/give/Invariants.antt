use Rattle.avro_data.proofs.Giving.{IsGiving}
use Rattle.avro_data.proofs.rounds.give.Given as goal

abbrev pub invariant-loop-id : goal.invariant-loop-id
invariant-loop-id l = IsGiving l.schema.nodes l.initial.table.items l.round l.candidates l.id-index l.table.items l.given.items
