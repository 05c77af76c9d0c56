use Rattle.std.proofs.Common.{◌≡◌, drop, find}
use Rattle.avro_resolve.specs.Pairing as spec
use Rattle.avro_resolve.proofs.fields.first_lacking.Given as goal

-- the fields so far have a value
abbrev pub invariant-loop-f : goal.invariant-loop-f
invariant-loop-f l = find (spec.lacks_value l.writer) l.fn.reader ≡ find (spec.lacks_value l.writer) (drop l.f-index l.reader)
