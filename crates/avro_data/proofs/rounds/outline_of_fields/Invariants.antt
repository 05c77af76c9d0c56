-- What is still to be counted decides.
use Rattle.std.proofs.Common.{◌≡◌, drop}
use Rattle.avro_data.specs.Outlines.{outlined_fields, nothing}
use Rattle.avro_data.specs.Rounds.{by_table}
use Rattle.avro_data.proofs.rounds.outline_of_fields.Given as goal

abbrev pub invariant-loop-field : goal.invariant-loop-field
invariant-loop-field l =
    outlined_fields (by_table l.table l.round) nothing l.fields
    ≡ outlined_fields (by_table l.table l.round) l.inside (drop l.field-index l.fields)
