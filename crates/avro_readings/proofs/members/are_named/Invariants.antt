-- The names are the same where those of what is left are.
use Rattle.std.proofs.Common.{◌≡◌, drop, map}
use Rattle.avro_resolve.specs.avro_schema.declared.node.Field.{Field}
use Rattle.avro_readings.proofs.Along.{Entry}
use Rattle.avro_readings.proofs.members.are_named.Given as goal

abbrev pub invariant-loop-k : goal.invariant-loop-k
invariant-loop-k l =
    map (λ (f : Field). f.name) (drop l.k l.fields) ≡ map (λ (m : Entry). m.0) (drop l.k l.members)
    → map (λ (f : Field). f.name) l.fields ≡ map (λ (m : Entry). m.0) l.members
