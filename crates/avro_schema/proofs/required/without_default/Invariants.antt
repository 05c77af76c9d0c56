-- The names so far, and those of the fields that are left.
use Rattle.std.proofs.Common.{◌≡◌, ◌++◌, drop}
use Rattle.avro_schema.specs.Required.{required_in}
use Rattle.avro_schema.proofs.required.without_default.Given as goal

abbrev pub invariant-loop-field : goal.invariant-loop-field
invariant-loop-field l = required_in l.fields ≡ l.names.items ++ required_in (drop l.field-index l.fields)
