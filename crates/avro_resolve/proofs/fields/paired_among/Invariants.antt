use Rattle.std.proofs.Common.{◌≡◌, ◌<◌, ◌≤◌, length, drop, filter, is_some, slice_get}
use Rattle.std.specs.List.{AllWithin}
use Rattle.avro_resolve.specs.Pairing as spec
use Rattle.avro_resolve.proofs.fields.paired_among.Given as goal

-- the field that is looked for is among those from the next on, after as many as are left to count
abbrev pub invariant-loop-x : goal.invariant-loop-x
invariant-loop-x l = record {
  left : slice_get (filter (λ f. is_some (spec.partner l.writer f)) l.fn.reader) l.number
      ≡ slice_get (filter (λ f. is_some (spec.partner l.writer f)) (drop l.next l.reader)) l.left;
  earlier : AllWithin (λ y. y.holder.field < l.next) l.found 0 l.x-index;
  within : l.next ≤ length l.reader;
}
