use Rattle.std.proofs.Common.{◌≡◌, drop, filter, is_some, slice_get}
use Rattle.avro_resolve.specs.Pairing as spec
use Rattle.avro_resolve.proofs.fields.paired_at.Given as goal

-- the field that is looked for is among those that are left, after as many as are left to count
abbrev pub invariant-loop-f : goal.invariant-loop-f
invariant-loop-f l =
    slice_get (filter (λ f. is_some (spec.partner l.writer f)) l.fn.reader) l.number
    ≡ slice_get (filter (λ f. is_some (spec.partner l.writer f)) (drop l.f-index l.reader)) l.left
