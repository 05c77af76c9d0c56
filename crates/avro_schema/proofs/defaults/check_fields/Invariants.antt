-- The fields so far have good defaults.
use Rattle.std.proofs.Common.{◌≡◌, drop}
use Rattle.avro_schema.proofs.DefaultLemmas.{bad_in}
use Rattle.avro_schema.proofs.defaults.check_fields.Given as goal

abbrev pub invariant-loop-field : goal.invariant-loop-field
invariant-loop-field l = bad_in l.schema.nodes l.fields ≡ bad_in l.schema.nodes (drop l.field-index l.fields)
